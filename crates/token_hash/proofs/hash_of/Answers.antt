-- The idea: the library's conversions between a number and its bytes are those of the definition.
use Rattle.std.proofs.Common.{◌≡◌, ℕ, List, [], ap, ◌∙◌, arith}
use Rattle.std.proofs.Math.Nat.{div-one}
use Rattle.std.specs.Int.{w128, to_le_bytes, from_le_bytes}
use Rattle.basics.specs.Range.{listed, sum}
use Rattle.cshake.specs.CShake.{c_shake128}
use Rattle.token_hash.specs.TokenHash.{customization, token_bytes, number_of_bytes, token_hash}
use Rattle.token_hash.proofs.hash_of.Goals as goal

token-bytes : (token : ℕ) → to_le_bytes w128 token ≡ token_bytes token
unfolding listed token_bytes
token-bytes token = simp div-one

number-of_bytes : (bytes : List ℕ) → from_le_bytes w128 bytes ≡ number_of_bytes bytes
unfolding sum number_of_bytes
number-of_bytes bytes = omega arith

pub returns : goal.returns
unfolding customization token_hash
returns c =
    let hash = λ (bytes : List ℕ). c_shake128 bytes 16 [] customization in
    c.from_le_bytes.ensures
    ∙ number-of_bytes c.cshake128.new.out
    ∙ ap number_of_bytes (c.cshake128.ensures ∙ ap hash (c.to_le_bytes.ensures ∙ token-bytes c.args.token))
