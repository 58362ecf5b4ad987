-- What an address inside each range of the two maps, and one past each map, has for its partition's number: what the maps' `number_at` is proved by.
use Rattle.std.proofs.Common.{◌≡◌, ℕ, ◌≤◌, ◌<◌, sym, arith}
use Rattle.partitions.specs.Map.{number_at, partition, limit}
use Rattle.partitions.specs.Map1.{map1}
use Rattle.partitions.specs.Map2.{map2}
use Rattle.partitions.proofs.Maps.{map1-fit, map2-fit, map1-length, map2-length, in-range, past_end}

pub map1-at-0 : (a : ℕ) → (partition map1 0).start ≤ a → a < (partition map1 0).end → number_at map1 a ≡ 0
map1-at-0 a l u = sym (in-range map1 map1-fit 7 map1-length 0 (omega arith, l, u))

pub map1-at-1 : (a : ℕ) → (partition map1 1).start ≤ a → a < (partition map1 1).end → number_at map1 a ≡ 1
map1-at-1 a l u = sym (in-range map1 map1-fit 7 map1-length 1 (omega arith, l, u))

pub map1-at-2 : (a : ℕ) → (partition map1 2).start ≤ a → a < (partition map1 2).end → number_at map1 a ≡ 2
map1-at-2 a l u = sym (in-range map1 map1-fit 7 map1-length 2 (omega arith, l, u))

pub map1-at-3 : (a : ℕ) → (partition map1 3).start ≤ a → a < (partition map1 3).end → number_at map1 a ≡ 3
map1-at-3 a l u = sym (in-range map1 map1-fit 7 map1-length 3 (omega arith, l, u))

pub map1-at-4 : (a : ℕ) → (partition map1 4).start ≤ a → a < (partition map1 4).end → number_at map1 a ≡ 4
map1-at-4 a l u = sym (in-range map1 map1-fit 7 map1-length 4 (omega arith, l, u))

pub map1-at-5 : (a : ℕ) → (partition map1 5).start ≤ a → a < (partition map1 5).end → number_at map1 a ≡ 5
map1-at-5 a l u = sym (in-range map1 map1-fit 7 map1-length 5 (omega arith, l, u))

pub map1-at-6 : (a : ℕ) → (partition map1 6).start ≤ a → a < (partition map1 6).end → number_at map1 a ≡ 6
map1-at-6 a l u = sym (in-range map1 map1-fit 7 map1-length 6 (omega arith, l, u))

pub map1-past : (a : ℕ) → limit map1 ≤ a → number_at map1 a ≡ 7
map1-past a l = sym (past_end map1 map1-fit 7 map1-length l)

pub ruleset map1_ranges = (map1-at-0, map1-at-1, map1-at-2, map1-at-3, map1-at-4, map1-at-5, map1-at-6, map1-past)

pub map2-at-0 : (a : ℕ) → (partition map2 0).start ≤ a → a < (partition map2 0).end → number_at map2 a ≡ 0
map2-at-0 a l u = sym (in-range map2 map2-fit 11 map2-length 0 (omega arith, l, u))

pub map2-at-1 : (a : ℕ) → (partition map2 1).start ≤ a → a < (partition map2 1).end → number_at map2 a ≡ 1
map2-at-1 a l u = sym (in-range map2 map2-fit 11 map2-length 1 (omega arith, l, u))

pub map2-at-2 : (a : ℕ) → (partition map2 2).start ≤ a → a < (partition map2 2).end → number_at map2 a ≡ 2
map2-at-2 a l u = sym (in-range map2 map2-fit 11 map2-length 2 (omega arith, l, u))

pub map2-at-3 : (a : ℕ) → (partition map2 3).start ≤ a → a < (partition map2 3).end → number_at map2 a ≡ 3
map2-at-3 a l u = sym (in-range map2 map2-fit 11 map2-length 3 (omega arith, l, u))

pub map2-at-4 : (a : ℕ) → (partition map2 4).start ≤ a → a < (partition map2 4).end → number_at map2 a ≡ 4
map2-at-4 a l u = sym (in-range map2 map2-fit 11 map2-length 4 (omega arith, l, u))

pub map2-at-5 : (a : ℕ) → (partition map2 5).start ≤ a → a < (partition map2 5).end → number_at map2 a ≡ 5
map2-at-5 a l u = sym (in-range map2 map2-fit 11 map2-length 5 (omega arith, l, u))

pub map2-at-6 : (a : ℕ) → (partition map2 6).start ≤ a → a < (partition map2 6).end → number_at map2 a ≡ 6
map2-at-6 a l u = sym (in-range map2 map2-fit 11 map2-length 6 (omega arith, l, u))

pub map2-at-7 : (a : ℕ) → (partition map2 7).start ≤ a → a < (partition map2 7).end → number_at map2 a ≡ 7
map2-at-7 a l u = sym (in-range map2 map2-fit 11 map2-length 7 (omega arith, l, u))

pub map2-at-8 : (a : ℕ) → (partition map2 8).start ≤ a → a < (partition map2 8).end → number_at map2 a ≡ 8
map2-at-8 a l u = sym (in-range map2 map2-fit 11 map2-length 8 (omega arith, l, u))

pub map2-at-9 : (a : ℕ) → (partition map2 9).start ≤ a → a < (partition map2 9).end → number_at map2 a ≡ 9
map2-at-9 a l u = sym (in-range map2 map2-fit 11 map2-length 9 (omega arith, l, u))

pub map2-at-10 : (a : ℕ) → (partition map2 10).start ≤ a → a < (partition map2 10).end → number_at map2 a ≡ 10
map2-at-10 a l u = sym (in-range map2 map2-fit 11 map2-length 10 (omega arith, l, u))

pub map2-past : (a : ℕ) → limit map2 ≤ a → number_at map2 a ≡ 11
map2-past a l = sym (past_end map2 map2-fit 11 map2-length l)

pub ruleset map2_ranges = (map2-at-0, map2-at-1, map2-at-2, map2-at-3, map2-at-4, map2-at-5, map2-at-6, map2-at-7, map2-at-8, map2-at-9, map2-at-10, map2-past)
