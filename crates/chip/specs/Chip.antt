-- The chip that the code is proved against: the model at PRESENT, the digest and the hash of tokens, over any map. And what a command promises.
use Rattle.std.specs.Prelude.{ℕ, ◌/◌, ◌||◌, List, ltb, length, ◌≡◌}
use Rattle.basics.specs.Choice.{when◌then◌else◌}
use Rattle.present.specs.Present.{encrypt_block, decrypt_block}
use Rattle.digest.specs.Digest.{digest_words}
use Rattle.token_hash.specs.TokenHash.{token_hash}
use Rattle.partitions.specs.declared.Partition.{Partition}
use Rattle.partitions.specs.Map.{Map}
use Rattle.model.specs.declared.Session.{Session}
use Rattle.model.specs.declared.Command.{Command}
use Rattle.model.specs.declared.Outcome.{Outcome}
use Rattle.model.specs.Lent.{Lent, Machine, Primitives}
use Rattle.model.specs.Commands.{computed_digest}
use Rattle.model.specs.Step.{Answered, step}

abbrev pub primitives : Primitives
primitives = record { encrypt = encrypt_block; decrypt = decrypt_block; digest = digest_words; hash = token_hash }

-- what is lent, in the order of the parameters
abbrev pub lent_of : List ℕ → List ℕ → List ℕ → Lent
lent_of cells copy constants = record { cells = cells; copy = copy; constants = constants }

-- with a session record
abbrev pub machine_of : Lent → Session → Machine
machine_of l session = record { lent = l; session = session }

-- what is lent after a command, with what it gave back
abbrev pub result_of : Lent → Outcome → Answered
result_of l outcome = record { machine = machine_of l outcome.session; answer = outcome.answer }

-- what the model makes of a command
abbrev pub result_for : Map → Command → Machine → Answered
result_for map x m = (step primitives map x m).result

-- The promise of a command: with this record and what is lent before, it leaves what is lent after and gives this outcome.
abbrev pub Executes : Map → Command → Session → Lent → Lent → Outcome → Type 0
Executes map x session before after outcome = result_of after outcome ≡ result_for map x (machine_of before session)

-- the digest of a partition's data words, 0 where they do not lie in the cells
unfoldable pub digest_within : List ℕ → List ℕ → Partition → ℕ
digest_within cells constants p =
    when ltb (p.digest / 2) (p.start / 2) || ltb (length cells) (p.digest / 2) then 0 else computed_digest primitives constants p cells
