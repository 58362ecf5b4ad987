-- A map is a list of partitions, numbered from 0. Nothing here knows how many there are or where they stand. Addresses are byte addresses.
use Rattle.std.specs.Prelude.{ℕ, suc, ◌*◌, ◌/◌, Bool, true, false, ◌&&◌, List, [], ◌∷◌, eqb, leb, ltb, get_or}
use Rattle.basics.specs.Choice.{when◌then◌else◌}
use Rattle.partitions.specs.declared.Kind.{Kind}
use Rattle.partitions.specs.declared.Kind.TheVariants.{Software, AuthState, HwCfg, Secret0, Secret1, Secret2, LifeCycle}
use Rattle.partitions.specs.declared.Rights.{Rights}
use Rattle.partitions.specs.declared.Partition.{Partition}

-- What documents 01 and 02 grant a kind, in this order: direct access, a run-time read lock, a hardware digest, scrambled data, front reads, and data that
-- keep the old rule of programming under request Three.
abbrev pub granted : Bool → Bool → Bool → Bool → Bool → Bool → Rights
granted direct lockable hardware scrambled front additive =
    record { direct = direct; lockable = lockable; hardware = hardware; scrambled = scrambled; front = front; additive = additive }

unfoldable pub rights_of : Kind → Rights
rights_of Software = granted true true false false false false
rights_of AuthState = granted true true false false false true
rights_of HwCfg = granted true false true false true false
rights_of Secret0 = granted true false true true false false
rights_of Secret1 = granted true false true true false false
rights_of Secret2 = granted true false true true false false
rights_of LifeCycle = granted false false false false false false

abbrev pub Map : Type 0
Map = List Partition

-- a partition, as a row of a map
abbrev pub row : Kind → ℕ → ℕ → ℕ → ℕ → Partition
row kind start digest end granule = record { kind = kind; start = start; digest = digest; end = end; granule = granule }

-- "Each address .. lies in exactly one partition, found by its range."
unfoldable pub holds : Partition → ℕ → Bool
holds p a = leb p.start a && ltb a p.end

-- the number of the partition of an address; where none holds it, how many there are
unfoldable pub number_at : Map → ℕ → ℕ
number_at [] a = 0
number_at (p ∷ ps) a = when holds p a then 0 else suc (number_at ps a)

-- past the last partition: no bytes and no rights
unfoldable pub nowhere : Partition
nowhere = record { kind = LifeCycle; start = 0; digest = 0; end = 0; granule = 4 }

-- the partition of a number, and that of an address
unfoldable pub partition : Map → ℕ → Partition
partition map n = get_or map n nowhere

unfoldable pub partition_at : Map → ℕ → Partition
partition_at map a = partition map (number_at map a)

-- the first address past the map: 0x380 in Map 1
unfoldable pub limit : Map → ℕ
limit [] = 0
limit (p ∷ []) = p.end
limit (p ∷ q ∷ ps) = limit (q ∷ ps)

-- an address of the partition is in its digest; else it is in its data
unfoldable pub in_digest : Partition → ℕ → Bool
in_digest p a = leb p.digest a

-- the granule of an address, in bytes: "every digest location of partitions 0 to 5 now has 8 bytes, for read and write" (document 02), and data have the
-- granule of their partition
unfoldable pub granule_at : Partition → ℕ → ℕ
granule_at p a = when in_digest p a then 8 else p.granule

-- "low address bits inside a granule are ignored": its first word, and how many words it has
unfoldable pub first_word : Partition → ℕ → ℕ
first_word p a = a / granule_at p a * (granule_at p a / 2)

unfoldable pub word_count : Partition → ℕ → ℕ
word_count p a = granule_at p a / 2

-- kinds by a number, and the number of the first partition of a kind
unfoldable pub kind_number : Kind → ℕ
kind_number Software = 0
kind_number AuthState = 1
kind_number HwCfg = 2
kind_number Secret0 = 3
kind_number Secret1 = 4
kind_number Secret2 = 5
kind_number LifeCycle = 6

unfoldable pub number_of_kind : Map → Kind → ℕ
number_of_kind [] k = 0
number_of_kind (p ∷ ps) k = when eqb (kind_number p.kind) (kind_number k) then 0 else suc (number_of_kind ps k)
