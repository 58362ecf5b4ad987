-- Power-up, "from any phase".
use Rattle.std.specs.Prelude.{ℕ, ◌+◌, ◌*◌, ◌-◌, ◌/◌, Bool, not, ◌&&◌, ◌||◌, List, eqb, length, get_or, Ok, Err, Option, None, Some}
use Rattle.basics.specs.Choice.{when◌then◌else◌}
use Rattle.basics.specs.Range.{listed, first_not}
use Rattle.words.specs.Words.{words_of, part_at}
use Rattle.partitions.specs.declared.Partition.{Partition}
use Rattle.partitions.specs.Map.{Map, rights_of, partition, partition_at, limit, in_digest, first_word, word_count}
use Rattle.life_cycle.specs.declared.LifeCycle.{LifeCycle}
use Rattle.life_cycle.specs.Words.{decoded}
use Rattle.model.specs.declared.Reason.{Reason}
use Rattle.model.specs.declared.Reason.TheVariants as reason
use Rattle.model.specs.declared.Phase.TheVariants.{Ready, Dead}
use Rattle.model.specs.declared.Session.{Session}
use Rattle.model.specs.declared.Failure.{Failure}
use Rattle.model.specs.declared.Failure.TheVariants.{DigestFailed, LifeCycleFailed}
use Rattle.model.specs.Answers.{Answer}
use Rattle.model.specs.Session.{entries, no_digests, unlocked}
use Rattle.model.specs.Lent.{Lent, Primitives}
use Rattle.model.specs.Commands.{granule, stored_digest, computed_digest, unscrambled, counter_at, state_at}

-- the stored digest of a partition that has one (those with direct access: all but LIFE_CYCLE), else 0
unfoldable pub sensed_digest : List ℕ → Partition → ℕ
sensed_digest cells p = when (rights_of p.kind).direct then stored_digest p cells else 0

-- by the numbers of the partitions, as many as the record has entries; 0 past the last partition
unfoldable pub digests : List ℕ → Map → List ℕ
digests cells map = listed (λ n. sensed_digest cells (partition map n)) 0 entries

-- how a power-up ends: dead, with a reason and an answer, or ready with a state and a count
pub data PowerUpEnd : Type 0 where
  fails : Reason → Failure → PowerUpEnd
  succeeds : ℕ → ℕ → PowerUpEnd

-- "invalid or SCRAP gives 7 and Dead 7 .. value for SCRAP as below, for invalid 0xFFFF"; SCRAP is state 20
unfoldable pub life_cycle_end : Option LifeCycle → PowerUpEnd
life_cycle_end None = fails reason.LifeCycleFailed (LifeCycleFailed 0xFFFF)
life_cycle_end (Some life) =
    when eqb life.state 20 then fails reason.LifeCycleFailed (LifeCycleFailed (256 * life.count + life.state)) else succeeds life.state life.count

-- "the first that differs gives 6 and Dead 6. Then .."
unfoldable pub end_of : Option ℕ → Option LifeCycle → PowerUpEnd
end_of (Some number) life = fails reason.DigestFailed (DigestFailed number)
end_of None life = life_cycle_end life

module _ (prims : Primitives) where
  -- "Partitions 2 to 5 ..: a nonzero stored digest must equal the one recomputed" (2 to 5 are those with a hardware digest)
  unfoldable pub digest_holds : List ℕ → List ℕ → Partition → Bool
  digest_holds constants cells p =
      not (rights_of p.kind).hardware || eqb (stored_digest p cells) 0 || eqb (stored_digest p cells) (computed_digest prims constants p cells)

-- "Then state and count are decoded"
unfoldable pub life_cycle_in : Map → Lent → Option LifeCycle
life_cycle_in map l = decoded l.constants (part_at l.cells (counter_at map) 24) (part_at l.cells (state_at map) 20)

-- "A 6 or 7 here sets .. sensed digests, state and count to zero" "Success: Ready; sensed digests of 0 to 5 are the stored ones". Both clear the read
-- locks.
unfoldable pub powered_session : Map → PowerUpEnd → Lent → Session
powered_session map (fails reason failure) l = unlocked (Dead reason) no_digests 0 0
powered_session map (succeeds state count) l = unlocked Ready (digests l.cells map) state count

-- "value 256 times count plus state"
unfoldable pub powered_answer : PowerUpEnd → Answer
powered_answer (fails reason failure) = Err failure
powered_answer (succeeds state count) = Ok (256 * count + state)

module _ (prims : Primitives) (map : Map) where
  -- An integrity verdict: "the first partition that fails a power-up's digest check, or none"
  unfoldable pub first_failing : List ℕ → List ℕ → Option ℕ
  first_failing constants cells = first_not (λ n. digest_holds prims constants cells (partition map n)) 0 (length map)

  abbrev pub verdict_of : Lent → Option ℕ
  verdict_of l = first_failing l.constants l.cells

  -- "the copy holds 2 to 6, secret data unscrambled, and zero for 0 and 1" (the partitions with read locks): word j, where secret data is unscrambled
  -- by granules
  unfoldable pub copy_word : List ℕ → List ℕ → ℕ → ℕ
  copy_word constants cells j =
      let a = 2 * j in
      let p = partition_at map a in
      when (rights_of p.kind).lockable then 0
      else when (rights_of p.kind).scrambled && not (in_digest p a)
      then get_or (words_of (word_count p a) (unscrambled prims constants p (granule p cells a))) (j - first_word p a) 0
      else get_or cells j 0

  -- "A 6 or 7 here sets the copy to all zero"
  unfoldable pub powered_copy : PowerUpEnd → Lent → List ℕ
  powered_copy (fails reason failure) l = listed (λ j. 0) 0 (limit map / 2)
  powered_copy (succeeds state count) l = listed (copy_word l.constants l.cells) 0 (limit map / 2)

  -- how a power-up of these cells ends
  unfoldable pub power_up_end : Lent → PowerUpEnd
  power_up_end l = end_of (verdict_of l) (life_cycle_in map l)
