-- Numbers by their digits, the lowest digit first.
use Rattle.std.specs.Prelude.{ℕ, ◌*◌, ◌/◌, ◌%◌, ◌^◌}
use Rattle.basics.specs.Range.{sum}

-- digit i of x to the base b
abbrev pub digit : ℕ → ℕ → ℕ → ℕ
digit b x i = x / b ^ i % b

-- the number with the n digits d 0, d 1, .. to the base b
abbrev pub number : ℕ → ℕ → (ℕ → ℕ) → ℕ
number b n d = sum n (λ i. d i * b ^ i)

-- bit i of x
abbrev pub bit : ℕ → ℕ → ℕ
bit x i = digit 2 x i
