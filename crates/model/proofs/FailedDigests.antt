-- What a failed digest check was caused by. The idea: a check that passed fails after a write to the partition's data alone; such a write is allowed where the
-- sensed digest is zero, and the check fails where the stored one is not: then a digest command put it there since the last power-up.
use Rattle.std.specs.Prelude.{Ok}
use mathlib.Core.Path.{◌≡◌, refl, sym, ap, subst, ◌∙◌}
use mathlib.Core.Bool.{true, false}
use mathlib.Core.List.{List, [], ◌∷◌, ◌++◌}
use mathlib.Core.Logic.{◌⊎◌, inl, inr, ⊎_elim}
use Prim.Native.Nat.{ℕ}
use lib.Dec.{eqb}
use lib.ListN.{get_or}
use borrow.Author.Tests.{eqb-true, eqb-false}
use Rattle.basics.proofs.Choice.{true-not-false, by_cases, and_both}
use Rattle.partitions.specs.declared.Partition.{Partition}
use Rattle.partitions.specs.Map.{Map, rights_of, number_at, partition, partition_at, in_digest}
use Rattle.partitions.specs.Fitness.{fit}
use Rattle.partitions.proofs.KindRights.{hardware-direct}
use Rattle.partitions.proofs.Map.{partition-at}
use Rattle.model.specs.declared.Command.{Command}
use Rattle.model.specs.declared.Command.TheVariants.{Write, Digest, Transition, PowerUp}
use Rattle.model.specs.Answers.{Answer, code_of}
use Rattle.model.specs.Session.{is_ready, sensed_at}
use Rattle.model.specs.Lent.{Machine, Primitives}
use Rattle.model.specs.Commands.{stored_digest}
use Rattle.model.specs.PowerUp.{digest_holds}
use Rattle.model.specs.Step.{Step, unchanged, performed, act, after, machine_after, answer_to}
use Rattle.model.specs.Claims.Terms.{ValidInputs, Says, Digested, not_power_up, NoPowerUp, DigestFits, writing_of, writes_nothing}
use Rattle.model.specs.Claims.Digests.{writes, computes, data_not_written, Digestible, DataNotWritten}
use Rattle.model.specs.Claims.FailedPowerUps.{WrittenAfterDigest}
use Rattle.model.proofs.Steps.{step_both, step-inputs, step-constants, after-inputs, obeys-act, after-constants}
use Rattle.model.proofs.Locks.{sensed-stored}
use Rattle.model.proofs.Digests.{Change, kept, puts, step-changes}
use Rattle.model.proofs.Refusals.{power-ups-refuse}
use Rattle.model.proofs.Classes.{no-power-up, by-writing, by-class}
use Rattle.model.proofs.Since.{first-since, up-held}
use Rattle.model.proofs.KindNames.{kind-hardware}
use Rattle.model.proofs.PowerUpCodes.{none-fails, fails-failed, power-up-sixes}
use Rattle.model.proofs.DigestChecks.{zero-holds, step-holds, digest-checks}
use Rattle.model.proofs.Guards.{not-locked}
use Rattle.model.proofs.Effects.{effect-ready, effect-sensed}
use Rattle.model.proofs.Targets.{write-only}

-- an act makes no phase Ready, and leaves what is sensed
step-leaves : (prims : Primitives) (map : Map) (n : ℕ) (x : Command) (m : Machine) → not_power_up x
    → (is_ready (machine_after prims map x m).session.phase ≡ true → is_ready m.session.phase ≡ true)
    × (sensed_at (machine_after prims map x m).session n ≡ sensed_at m.session n)
unfolding unchanged act performed sensed_at
step-leaves prims map n x m u =
    step_both prims map
    (λ (s : Step). (is_ready s.result.machine.session.phase ≡ true → is_ready m.session.phase ≡ true)
    × (sensed_at s.result.machine.session n ≡ sensed_at m.session n)) x m
    (λ answer e. ((λ q. q), refl))
    (rw (obeys-act prims map x m (no-power-up x u)) ((λ q. effect-ready _ m.session q), ap (λ (d : List ℕ). get_or d n 0) (effect-sensed _ m.session)))

sensed-as-stored : (prims : Primitives) (map : Map) (F : fit map ≡ true) (n : ℕ) → Digested map n → (m : Machine) → ValidInputs map m
    → is_ready (machine_after prims map PowerUp m).session.phase ≡ true
    → sensed_at (machine_after prims map PowerUp m).session n ≡ stored_digest (partition map n) m.lent.cells
unfolding sensed_at
sensed-as-stored prims map F n D m r e =
    ap (λ (d : List ℕ). get_or d n 0) ((up-held prims map F m r).holds e).sensed ∙ sensed-stored prims map F n D m.lent

-- a command that writes nothing is no digest command, and neither is a write
no-digest : (x : Command) {a : ℕ} → writing_of x ≡ writes_nothing → x ≡ Digest a → ⊥
no-digest x e f = cc

not-digest : {a value b : ℕ} → Write a value ≡ Digest b → ⊥
not-digest e = cc

digest-same : {a b : ℕ} → Digest a ≡ Digest b → a ≡ b
digest-same e = cc

module _ (prims : Primitives) (map : Map) (F : fit map ≡ true) (n : ℕ) (D : Digested map n) (hard : (rights_of (partition map n).kind).hardware ≡ true)
    (G : DigestFits prims) where
  abbrev p : Partition
  p = partition map n

  abbrev Holds : Machine → Type 0
  Holds m = digest_holds prims m.lent.constants m.lent.cells p ≡ true

  abbrev stored : Machine → ℕ
  stored m = stored_digest p m.lent.cells

  -- ---- what a command is to the partition

  data Role (x : Command) (m : Machine) : Type 0 where
    puts_digest : {a : ℕ} → x ≡ Digest a → a ≡ p.start → code_of (answer_to prims map (Digest a) m) ≡ 0x00 → Role x m
    writes_data : {a value : ℕ} → x ≡ Write a value → number_at map a ≡ n → in_digest (partition_at map a) a ≡ false
        → code_of (answer_to prims map (Write a value) m) ≡ 0x00
        → stored (machine_after prims map x m) ≡ stored m → Role x m
    powers_up : x ≡ PowerUp → Role x m
    others : not_power_up x → data_not_written map n x (answer_to prims map x m) → stored (machine_after prims map x m) ≡ stored m → Role x m

  -- the stored digest stays, but for a digest command
  keeps-digest : (x : Command) (m : Machine) → ValidInputs map m → ((a value : ℕ) → x ≡ Digest a → a ≡ p.start → answer_to prims map x m ≡ Ok value → ⊥)
      → stored (machine_after prims map x m) ≡ stored m
  keeps-digest x m r h = go x (answer_to prims map x m) refl refl (step-changes prims map F n D x m r)
    where
      go : (y : Command) (answer : Answer) → x ≡ y → answer_to prims map x m ≡ answer
          → Change prims map F n D y m.lent.cells (machine_after prims map x m).lent.cells answer
          → stored_digest (partition map n) (machine_after prims map x m).lent.cells ≡ stored_digest (partition map n) m.lent.cells
      go y answer e f (kept q) = q
      go y answer e f (puts (writes {a = a} {value = value} q d v)) =
          let w = write-only prims map m a value (rw e at (ap code_of f)) in
          let b = partition-at map a q in
          let hardware : (rights_of (partition_at map a).kind).hardware ≡ true = rw b hard in
          let digest : in_digest (partition_at map a) a ≡ true = rw b d in
          absurd (true-not-false (and_both _ _ hardware digest) w.guards.not_digest)
      go y answer e f (puts (computes {a = a} {value = value} q v)) = absurd (h a value e q f)

  idle-role : (x : Command) (m : Machine) → ValidInputs map m → writing_of x ≡ writes_nothing → not_power_up x → Role x m
  idle-role x m r e u = others u (rw (e, data_not_written) tt) (keeps-digest x m r (λ a value f q z. no-digest x e f))

  write-role : (m : Machine) → ValidInputs map m → (a value : ℕ) → Role (Write a value) m
  write-role m r a value =
      let same = keeps-digest (Write a value) m r (λ b v e q f. not-digest e) in
      by_cases (eqb (number_at map a) n)
      (λ t. by_cases (in_digest (partition_at map a) a) (λ d. others tt (λ i e z. true-not-false d e) same)
      (λ d. by_cases (eqb (code_of (answer_to prims map (Write a value) m)) 0x00) (λ z. writes_data refl (eqb-true _ _ t) d (eqb-true _ _ z) same)
      (λ z. others tt (λ i e q. eqb-false _ _ z q) same)))
      (λ t. others tt (λ i e z. eqb-false _ _ t i) same)

  digest-role : (m : Machine) → ValidInputs map m → (a : ℕ) → Role (Digest a) m
  digest-role m r a =
      by_cases (eqb a p.start)
      (λ t. by_cases (eqb (code_of (answer_to prims map (Digest a) m)) 0x00) (λ z. puts_digest refl (eqb-true _ _ t) (eqb-true _ _ z))
      (λ z. others tt tt (keeps-digest (Digest a) m r (λ b v e q f. eqb-false _ _ z (ap code_of f)))))
      (λ t. others tt tt (keeps-digest (Digest a) m r (λ b v e q f. eqb-false _ _ t (digest-same e ∙ q))))

  role : (x : Command) (m : Machine) → ValidInputs map m → Role x m
  role =
      by-writing (λ (x : Command). (m : Machine) → ValidInputs map m → Role x m) (λ a value m r. write-role m r a value) (λ a m r. digest-role m r a)
      (by-class (λ (x : Command). writing_of x ≡ writes_nothing → (m : Machine) → ValidInputs map m → Role x m) (λ e m r. powers_up refl)
      (λ target given e m r. idle-role (Transition target given) m r e tt) (λ x c e m r. idle-role x m r e (rw (c, not_power_up) tt)))

  -- ---- the invariant

  -- the partition passes, and a Ready record has sensed the digest that is stored
  record Sensed (m : Machine) : Type 0 where
    holds : Holds m
    sensed : is_ready m.session.phase ≡ true → sensed_at m.session n ≡ stored m

  next-holds : (x : Command) (m : Machine) → ValidInputs map m → Holds m → data_not_written map n x (answer_to prims map x m)
      → Holds (machine_after prims map x m)
  next-holds x m r h s = rw (step-constants prims map x m) (step-holds prims map F n D hard G x m r h s)

  -- sensed digests stay, but for a power-up
  next-sensed : (x : Command) (m : Machine) → not_power_up x → Sensed m → stored (machine_after prims map x m) ≡ stored m
      → is_ready (machine_after prims map x m).session.phase ≡ true → sensed_at (machine_after prims map x m).session n ≡ stored (machine_after prims map x m)
  next-sensed x m u g e r = (leaves.1 ∙ g.sensed (leaves.0 r)) ∙ sym e
    where
      leaves : (is_ready (machine_after prims map x m).session.phase ≡ true → is_ready m.session.phase ≡ true)
          × (sensed_at (machine_after prims map x m).session n ≡ sensed_at m.session n)
      leaves = step-leaves prims map n x m u

  power-sensed : (m : Machine) → ValidInputs map m → Holds m → Sensed (machine_after prims map PowerUp m)
  power-sensed m r h = record { holds = rw (step-constants prims map PowerUp m, cells) h; sensed = as-stored }
    where
      cells : (machine_after prims map PowerUp m).lent.cells ≡ m.lent.cells
      cells = (power-ups-refuse prims map m).0

      as-stored : is_ready (machine_after prims map PowerUp m).session.phase ≡ true
          → sensed_at (machine_after prims map PowerUp m).session n ≡ stored_digest (partition map n) (machine_after prims map PowerUp m).lent.cells
      as-stored e = sensed-as-stored prims map F n D m r e ∙ sym (ap (stored_digest (partition map n)) cells)

  -- ---- over a list

  -- a write to the partition's data that answers 0, before any power-up
  record Found (m : Machine) (l : List Command) : Type 0 where
    between : List Command
    behind : List Command
    address : ℕ
    value : ℕ
    split : l ≡ between ++ Write address value ∷ behind
    no_power_up : NoPowerUp between
    part : number_at map address ≡ n
    is_data : in_digest (partition_at map address) address ≡ false
    written : code_of (answer_to prims map (Write address value) (after prims map between m)) ≡ 0x00

  found-later : (x : Command) (m : Machine) (l : List Command) → not_power_up x → Found (machine_after prims map x m) l → Found m (x ∷ l)
  found-later x m l u f = record {
    between = x ∷ f.between;
    behind = f.behind;
    address = f.address;
    value = f.value;
    split = ap (λ (k : List Command). x ∷ k) f.split;
    no_power_up = (u, f.no_power_up);
    part = f.part;
    is_data = f.is_data;
    written = unfold after in f.written;
  }

  written-later : (x : Command) (m : Machine) (l : List Command) → WrittenAfterDigest prims map (machine_after prims map x m) l n
      → WrittenAfterDigest prims map m (x ∷ l) n
  written-later x m l f = record {
    before = x ∷ f.before;
    between = f.between;
    behind = f.behind;
    at = f.at;
    address = f.address;
    value = f.value;
    split = ap (λ (k : List Command). x ∷ k) f.split;
    no_power_up = f.no_power_up;
    digest_part = f.digest_part;
    written_part = f.written_part;
    written_data = f.written_data;
    digested = unfold after in f.digested;
    written = unfold after in f.written;
  }

  written-here : (a : ℕ) (m : Machine) (l : List Command) → a ≡ p.start → code_of (answer_to prims map (Digest a) m) ≡ 0x00
      → Found (machine_after prims map (Digest a) m) l → WrittenAfterDigest prims map m (Digest a ∷ l) n
  written-here a m l s z f = record {
    before = [];
    between = f.between;
    behind = f.behind;
    at = a;
    address = f.address;
    value = f.value;
    split = ap (λ (k : List Command). Digest a ∷ k) f.split;
    no_power_up = f.no_power_up;
    digest_part = s;
    written_part = f.part;
    written_data = f.is_data;
    digested = unfold after in z;
    written = unfold after in f.written;
  }

  abbrev Fails : Machine → Type 0
  Fails m = digest_holds prims m.lent.constants m.lent.cells p ≡ false

  -- a write that is allowed finds the digest zero, or a digest command put it there
  writes-sensed : (x : Command) (m : Machine) {a value : ℕ} → x ≡ Write a value → number_at map a ≡ n → code_of (answer_to prims map (Write a value) m) ≡ 0x00
      → stored (machine_after prims map x m) ≡ stored m → not_power_up x → Sensed m → Sensed (machine_after prims map x m)
  writes-sensed x m {a} {value} e i z same u g =
      let w = write-only prims map m a value z in
      let zero : stored m ≡ 0 = sym (g.sensed w.ready) ∙ rw i at (not-locked m.session (number_at map a) w.guards.unlocked) in
      record { holds = zero-holds prims map F n D _ _ (same ∙ zero); sensed = next-sensed x m u g same }

  abbrev From-good : List Command → Type 0
  From-good l = (m : Machine) → ValidInputs map m → Sensed m → Fails (after prims map l m) → WrittenAfterDigest prims map m l n

  abbrev From-holds : List Command → Type 0
  From-holds l = (m : Machine) → ValidInputs map m → Holds m → Fails (after prims map l m) → Found m l ⊎ WrittenAfterDigest prims map m l n

  more-sensed : (x : Command) (l : List Command) → From-good l → From-holds l → From-good (x ∷ l)
  unfolding after
  more-sensed x l f h m r g fails = go (role x m r)
    where
      r₁ : ValidInputs map (machine_after prims map x m)
      r₁ = step-inputs prims map x m r

      on : Sensed (machine_after prims map x m) → WrittenAfterDigest prims map m (x ∷ l) n
      on g₁ = written-later x m l (f (machine_after prims map x m) r₁ g₁ fails)

      go : Role x m → WrittenAfterDigest prims map m (x ∷ l) n
      go (puts_digest {a = a} e s z) =
          subst (λ (y : Command). WrittenAfterDigest prims map m (y ∷ l) n) (sym e)
          (⊎_elim (λ q. written-here a m l s z q) (λ q. written-later (Digest a) m l q)
          (rw e at (h (machine_after prims map x m) r₁
          (next-holds x m r g.holds (subst (λ (y : Command). data_not_written map n y (answer_to prims map x m)) (sym e) tt)) fails)))
      go (writes_data e i d z same) = on (writes-sensed x m e i z same (subst not_power_up (sym e) tt) g)
      go (powers_up e) = on (subst (λ (y : Command). Sensed (machine_after prims map y m)) (sym e) (power-sensed m r g.holds))
      go (others u s same) = on (record { holds = next-holds x m r g.holds s; sensed = next-sensed x m u g same })

  more-holds : (x : Command) (l : List Command) → From-good l → From-holds l → From-holds (x ∷ l)
  unfolding after
  more-holds x l f h m r k fails = go (role x m r)
    where
      r₁ : ValidInputs map (machine_after prims map x m)
      r₁ = step-inputs prims map x m r

      on : not_power_up x → Holds (machine_after prims map x m) → Found m (x ∷ l) ⊎ WrittenAfterDigest prims map m (x ∷ l) n
      on u k₁ = ⊎_elim (λ q. inl (found-later x m l u q)) (λ q. inr (written-later x m l q)) (h (machine_after prims map x m) r₁ k₁ fails)

      go : Role x m → Found m (x ∷ l) ⊎ WrittenAfterDigest prims map m (x ∷ l) n
      go (puts_digest e s z) =
          on (subst not_power_up (sym e) tt) (next-holds x m r k (subst (λ (y : Command). data_not_written map n y (answer_to prims map x m)) (sym e) tt))
      go (writes_data {a = a} {value = value} e i d z same) = inl (record {
        between = [];
        behind = l;
        address = a;
        value = value;
        split = ap (λ (y : Command). y ∷ l) e;
        no_power_up = tt;
        part = i;
        is_data = d;
        written = z;
      })
      go (powers_up e) =
          inr (written-later x m l (f (machine_after prims map x m) r₁
          (subst (λ (y : Command). Sensed (machine_after prims map y m)) (sym e) (power-sensed m r k)) fails))
      go (others u s same) = on u (next-holds x m r k s)

  both : (l : List Command) → From-good l × From-holds l
  unfolding after
  both [] = ((λ m r g fails. absurd (true-not-false g.holds fails)), λ m r k fails. absurd (true-not-false k fails))
  both (x ∷ l) = let q = both l in (more-sensed x l q.0 q.1, more-holds x l q.0 q.1)

-- ---- the theorem

module _ (prims : Primitives) (map : Map) (F : fit map ≡ true) where
  pub sixes : DigestFits prims → (m : Machine) → ValidInputs map m → code_of (answer_to prims map PowerUp m) ≡ 0x00 → (l : List Command) (n : ℕ)
      → Says 0x06 n (answer_to prims map PowerUp (after prims map (PowerUp ∷ l) m)) → WrittenAfterDigest prims map (machine_after prims map PowerUp m) l n
  unfolding after partition
  sixes G m r z l n e =
      let m₀ = machine_after prims map PowerUp m in
      let r₀ = step-inputs prims map PowerUp m r in
      let m₁ = after prims map l m₀ in
      let f = ((power-up-sixes prims map m₁ (after-inputs prims map l m₀ r₀) n).0 e).fails in
      let hard = kind-hardware f.hardware in
      let D : Digested map n = record { known = f.known; direct = hardware-direct _ hard } in
      let first : digest_holds prims m.lent.constants m.lent.cells (partition map n) ≡ true =
      none-fails prims map m.lent.constants m.lent.cells (rw (step-constants prims map PowerUp m) at (first-since prims map F m r z).checked) n
      f.known in
      (both prims map F n D hard G l).0 m₀ r₀ (power-sensed prims map F n D hard G m r first)
      (fails-failed prims map m₁.lent n f)

  -- from a digest command on, while its data are not written
  pub digest-passes : DigestFits prims → (m : Machine) → ValidInputs map m → (a : ℕ) → Digestible prims map m a → (l : List Command)
      → DataNotWritten prims map (number_at map a) l (machine_after prims map (Digest a) m)
      → Says 0x06 (number_at map a) (answer_to prims map PowerUp (after prims map l (machine_after prims map (Digest a) m))) → ⊥
  unfolding partition partition_at
  digest-passes G m r a d l s e =
      let m₀ = machine_after prims map (Digest a) m in
      let m₁ = after prims map l m₀ in
      let f = ((power-up-sixes prims map m₁ (after-inputs prims map l m₀ (step-inputs prims map (Digest a) m r)) (number_at map a)).0 e).fails in
      let k : m₁.lent.constants ≡ m.lent.constants = after-constants prims map l m₀ ∙ step-constants prims map (Digest a) m in
      true-not-false (digest-checks prims map m a F r d G l s) (rw k at (fails-failed prims map m₁.lent (number_at map a) f))
