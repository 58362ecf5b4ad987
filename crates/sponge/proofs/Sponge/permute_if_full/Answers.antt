-- The test of the code is the definition's.
use Rattle.std.proofs.Common.{List, ℕ, sym, ap, ◌∙◌, arith}
use Rattle.sponge.specs.Streaming.{sponge_of}
use Rattle.sponge.proofs.Permuting.{not_full, full-permuted}
use Rattle.sponge.proofs.Sponge.permute_if_full.Goals as goal

pub returns-then-self-ge-RATE : goal.returns-then-self-ge-RATE
returns-then-self-ge-RATE c = ap (λ (lanes : List ℕ). sponge_of lanes 0) c.permuted-self.ensures ∙ sym (full-permuted _ (omega arith))

pub returns-else-self-ge-RATE : goal.returns-else-self-ge-RATE
returns-else-self-ge-RATE c = sym (not_full _ (omega arith))
