-- The transition table, row by row as document 01 has it, and the token that each row needs.
use Rattle.std.specs.Prelude.{ℕ, ◌-◌, ◌/◌, ◌%◌, Bool, ◌&&◌, ◌||◌, eqb, leb, ltb, Option, Some, None}
use Rattle.basics.specs.Choice.{when◌then◌else◌}
use Rattle.life_cycle.specs.declared.Token.{Token}
use Rattle.life_cycle.specs.declared.Token.TheVariants.{Nothing, RawUnlock, TestUnlock, TestExit, Rma}

-- "TEST_UNLOCKEDi is 2i+1 (i 0..7), TEST_LOCKEDi is 2i+2 (i 0..6)"
unfoldable pub is_test : ℕ → Bool
is_test state = leb 1 state && leb state 15

unfoldable pub is_unlocked : ℕ → Bool
is_unlocked state = is_test state && eqb (state % 2) 1

unfoldable pub is_locked : ℕ → Bool
is_locked state = is_test state && eqb (state % 2) 0

-- the i of TEST_UNLOCKEDi or TEST_LOCKEDi
unfoldable pub test_index : ℕ → ℕ
test_index state = (state - 1) / 2

-- "Allowed: RAW to TEST_UNLOCKED0 (RAW token). TEST_UNLOCKEDn to TEST_LOCKEDm, m at least n (none). TEST_LOCKEDn to TEST_UNLOCKEDm, m above n
-- (TEST_UNLOCK). TEST_* to DEV, PROD, PROD_END (TEST_EXIT). TEST_UNLOCKEDn to RMA (none). DEV, PROD to RMA (RMA token). Any but SCRAP to
-- SCRAP (none)." DEV is 16, PROD 17, PROD_END 18, RMA 19 and SCRAP 20.
unfoldable pub table_entry : ℕ → ℕ → Option Token
table_entry from to =
    when eqb from 0 && eqb to 1 then Some RawUnlock
    else when is_unlocked from && is_locked to && leb (test_index from) (test_index to) then Some Nothing
    else when is_locked from && is_unlocked to && ltb (test_index from) (test_index to) then Some TestUnlock
    else when is_test from && leb 16 to && leb to 18 then Some TestExit
    else when is_unlocked from && eqb to 19 then Some Nothing
    else when (eqb from 16 || eqb from 17) && eqb to 19 then Some Rma
    else when ltb from 20 && eqb to 20 then Some Nothing
    else None
