use Rattle.std.proofs.Common.{◌≡◌, refl, ap₂, ◌∙◌, ℕ, nat_eq}
use denote.Enum.Declared.{tag_of}
use Rattle.partitions.specs.declared.Kind.{Kind}
use Rattle.partitions.specs.declared.Kind.TheVariants.{Software, AuthState, HwCfg, Secret0, Secret1, Secret2, LifeCycle}
use Rattle.partitions.specs.contracts.Kind.{the_type}
use Rattle.partitions.specs.Map.{kind_number}
use Rattle.partitions.proofs.Partition.is_of.Goals as goal

-- the variants stand in the order of their numbers
numbered : (k : Kind) → tag_of the_type k ≡ kind_number k
unfolding kind_number
numbered Software = refl
numbered AuthState = refl
numbered HwCfg = refl
numbered Secret0 = refl
numbered Secret1 = refl
numbered Secret2 = refl
numbered LifeCycle = refl

pub returns : goal.returns
returns c = c.eq.ensures ∙ ap₂ (λ (x y : ℕ). nat_eq x y) (numbered c.args.self.kind) (numbered c.args.kind)
