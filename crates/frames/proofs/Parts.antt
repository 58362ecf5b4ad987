-- Laws of a frame that is written part by part. The idea: a part that is lent comes back between what stands before it and behind it, which is `◌from◌put◌`
-- where it comes back as long as it was; and the frame stays as long as it is.
use Prim.Native.Nat.{ℕ, ◌+◌, ◌-◌, ◌≤◌, ◌<◌}
use mathlib.Core.Path.{◌≡◌, refl, ap, ◌∙◌}
use mathlib.Core.List.{List, [], ◌∷◌, append_assoc}
use native.Mathlib.Numerals.{add-one}
use native.Mathlib.Omega.{arith}
use lib.ListN.{length, set, take, drop, replicate, length-append, length-take, length-drop, length-set, length-replicate}
use lib.Seq.{drop-drop, set_split, sets-eq}
use borrow.Rule.Slice.PartMut.{put_mid}
use Rattle.frames.specs.Bytes.{zeros, ◌from◌put◌}

-- a frame as it should be, and as it is
pub record Written (right frame : List ℕ) : Type 0 where
  pub same : frame ≡ right
  pub whole : length frame ≡ 5120

pub unwritten : {frame : List ℕ} → length frame ≡ 5120 → Written frame frame
unwritten e = record { same = refl; whole = e }

lent_length : (frame : List ℕ) (at end : ℕ) → at ≤ end → end ≤ length frame → length (take (end - at) (drop at frame)) ≡ end - at
lent_length frame at end order within = simp (length-take, length-drop) (omega arith)

module _ {right frame : List ℕ} (w : Written right frame) where
  -- one byte
  pub then-byte : (at x : ℕ) → at < 5120 → Written (right from at put (x ∷ [])) (set frame at x)
  unfolding ◌from◌put◌
  then-byte at x h =
      let l = w.whole in
      record {
        same = rw (add-one at, ← w.same) (set_split frame at x (omega arith));
        whole = length-set frame at x ∙ w.whole;
      }

  -- bytes 1 to 3
  pub then-three : (x y z : ℕ) → Written (right from 1 put (x ∷ y ∷ z ∷ [])) (set (set (set frame 1 x) 2 y) 3 z)
  unfolding ◌from◌put◌
  then-three x y z =
      let l = w.whole in
      let e = sets-eq (x ∷ y ∷ z ∷ []) frame 1 (omega arith) ∙ append_assoc (take 1 frame) (x ∷ y ∷ z ∷ []) (drop 4 frame) in
      record { same = e ∙ ap (λ (f : List ℕ). f from 1 put (x ∷ y ∷ z ∷ [])) w.same; whole = simp length-set w.whole }

  module _ (at end : ℕ) (order : at ≤ end) (within : end ≤ 5120) where
    -- a part that was lent and came back
    pub then-part : (part new : List ℕ) → length new ≡ end - at → part ≡ new → Written (right from at put new) (put_mid at (end - at) frame part)
    unfolding ◌from◌put◌
    then-part part new n e =
        let l = w.whole in
        let k : at + (end - at) ≡ at + length new = omega arith in
        let behind : drop (end - at) (drop at frame) ≡ drop (at + length new) frame = drop-drop (end - at) at frame ∙ ap (λ (j : ℕ). drop j frame) k in
        record {
          same = rw (e, behind, w.same);
          whole = rw e (simp (length-append, length-take, length-drop) (omega arith));
        }

    -- one that was filled with zeros
    pub then-zeros : (part : List ℕ) → part ≡ replicate (length (take (end - at) (drop at frame))) 0
        → Written (right from at put zeros (end - at)) (put_mid at (end - at) frame part)
    unfolding zeros
    then-zeros part e =
        let same : length frame ≡ 5120 = w.whole in
        let long : length (take (end - at) (drop at frame)) ≡ end - at = lent_length frame at end order (omega arith) in
        then-part part (replicate (end - at) 0) (length-replicate (end - at) 0) (e ∙ ap (λ (k : ℕ). replicate k 0) long)
