-- Each iteration takes the last of the keys that are left.
use Rattle.std.proofs.Common.{◌≡◌, ℕ, suc, ◌+◌, List, [], ◌∷◌, ◌++◌, length, get_or, take, drop, refl, sym, ap, subst, ◌∙◌, add-one, arith, lit<}
use Rattle.std.proofs.lemmas.List.{get_or_append_left, get_or_push, get_or-take, get_or-drop, length_push, length-take, length-drop}
use Rattle.basics.specs.Choice.{when◌then◌else◌}
use Rattle.basics.specs.Range.{all_below, sum}
use Rattle.present.specs.Present.{s_box, s_box_inverse, permute_back, round_key, key_after}
use Rattle.present.proofs.Boxes.{substitute-held}
use Rattle.present.proofs.KeyRegister.{key-at, keys-length}
use Rattle.present.proofs.Backwards.{Held, held_first, held_next, held-last}
use Rattle.present.proofs.decrypt.Goals as goal

pub loop-round_key-init : goal.loop-round_key-init
loop-round_key-init c =
    let key : ℕ = c.args.key in
    let keys = c.round_keys-keys.result in
    let made = c.round_keys-keys.ensures in
    let left : c.into_iter-round_key-iterator.result.iter.rest.now ≡ take 30 (drop 1 keys) =
    rw (c.into_iter-round_key-iterator.ensures.into_iter_gives, c.rev-round_key-items.ensures.source) c.iter.ensures.rest in
    let size : length (take 30 (drop 1 keys)) ≡ 30 = simp (length-take, length-drop, keys-length keys key made) in
    rw left (
      λ k h. let second : 1 + k ≡ suc k = omega arith in
          get_or-take 30 (drop 1 keys) k 0 (omega arith) ∙ get_or-drop 1 keys k 0 ∙ rw second (key-at keys key (suc k) made (omega arith)),
      subst (Held key c.args.block c.permuted_back-state.result) (sym size) (held_first (key-at keys key 31 made (lit< tt)) c.permuted_back-state.ensures),
    )

pub loop-round_key-preserved : goal.loop-round_key-preserved
loop-round_key-preserved c =
    let left = c.loop-round_key.round_key-iterator.iter.rest.now in
    let rest = c.next.new.self.iter.rest.now in
    let key = c.in-Some.round_key.now in
    let split : left ≡ rest ++ key ∷ [] = c.in-Some.ensures.steps in
    let size : length left ≡ suc (length rest) = ap length split ∙ length_push rest key ∙ add-one (length rest) in
    let entry = c.loop-round_key.invariant.0 in
    let last : key ≡ round_key (key_after c.args.key (suc (length rest))) =
    sym (ap (λ (xs : List ℕ). get_or xs (length rest) 0) split ∙ get_or_push rest key 0 (length rest) refl)
    ∙ entry (length rest) (omega arith) in (
      λ k h. sym (ap (λ (xs : List ℕ). get_or xs k 0) split ∙ get_or_append_left rest (key ∷ []) 0 k h) ∙ entry k (omega arith),
      held_next (subst (Held c.args.key c.args.block c.loop-round_key.state) size c.loop-round_key.invariant.1) c.inverse_round.ensures
          (c.permuted_back.ensures ∙ ap permute_back last),
    )

pub returns : goal.returns
unfolding when◌then◌else◌ all_below sum s_box s_box_inverse
returns c =
    let boxed = c.substituted.ensures ∙ substitute-held _ s_box_inverse tt _ in
    held-last (subst (Held c.args.key c.args.block c.loop-round_key.state) c.in-None.ensures.steps.0 c.loop-round_key.invariant.1) boxed
    (key-at c.round_keys-keys.result c.args.key 0 c.round_keys-keys.ensures (lit< tt))
