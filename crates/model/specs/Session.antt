-- The session record: "phase, sensed digests, two read locks, state number, stroke count". A fit map has at most eleven partitions, and the last has neither a
-- digest nor a read lock (request Six): whatever the map, the record has ten sensed digests and ten read locks, by the number of the partition.
use Rattle.std.specs.Prelude.{ℕ, Bool, true, false, not, List, eqb, get_or, set, replicate}
use Rattle.model.specs.declared.Reason.{Reason}
use Rattle.model.specs.declared.Reason.TheVariants.{BitCleared, DigestFailed, LifeCycleFailed}
use Rattle.model.specs.declared.Phase.{Phase}
use Rattle.model.specs.declared.Phase.TheVariants.{Off, Ready, Inert, Dead}
use Rattle.model.specs.declared.Session.{Session}

-- "a dead phase carries its reason (4, 6 or 7)"
abbrev pub reason_code : Reason → ℕ
reason_code BitCleared = 4
reason_code DigestFailed = 6
reason_code LifeCycleFailed = 7

-- how many sensed digests, and how many read locks
abbrev pub entries : ℕ
entries = 10

-- nothing is sensed, nothing is read-locked
abbrev pub no_digests : List ℕ
no_digests = replicate entries 0

abbrev pub no_locks : List Bool
no_locks = replicate entries false

-- a record with no read lock
abbrev pub unlocked : Phase → List ℕ → ℕ → ℕ → Session
unlocked phase sensed state count = record { phase = phase; sensed = sensed; locks = no_locks; state = state; count = count }

-- "A fresh record is Off, all else zero."
abbrev pub fresh_session : Session
fresh_session = unlocked Off no_digests 0 0

-- the one phase in which commands but power-up are answered
unfoldable pub is_ready : Phase → Bool
is_ready Off = false
is_ready Ready = true
is_ready Inert = false
is_ready (Dead reason) = false

-- the sensed digest of a partition by its number; 0 past the record's entries
unfoldable pub sensed_at : Session → ℕ → ℕ
sensed_at s number = get_or s.sensed number 0

-- "Sensed locked means a nonzero sensed digest."
abbrev pub locking : ℕ → Bool
locking digest = not (eqb digest 0)

unfoldable pub sensed_locked : Session → ℕ → Bool
sensed_locked s number = locking (sensed_at s number)

-- the read lock of a partition by its number; it counts only where the partition's kind has a read lock (`read_act`)
unfoldable pub read_locked : Session → ℕ → Bool
read_locked s number = get_or s.locks number false

-- the record with another phase, with other read locks, or with one more
abbrev pub in_phase : Phase → Session → Session
in_phase phase s = record { phase = phase; sensed = s.sensed; locks = s.locks; state = s.state; count = s.count }

abbrev pub with_locks : List Bool → Session → Session
with_locks locks s = record { phase = s.phase; sensed = s.sensed; locks = locks; state = s.state; count = s.count }

abbrev pub with_lock : ℕ → Session → Session
with_lock number s = with_locks (set s.locks number true) s
