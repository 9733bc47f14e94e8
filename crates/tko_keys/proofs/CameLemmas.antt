-- Something came for several keys: how far the keys of the request came.
use Rattle.std.proofs.Common.{◌≡◌, ◌≢◌, ◌≤◌, ◌==◌, ℕ, true, false, List, [], ◌++◌, length, Option}
use Rattle.std.proofs.Common.{Some, None, refl, sym, ap, subst, ◌∙◌, append-nil, arith, inl, inr}
use Rattle.std.specs.Prelude.{◌⊎◌, All, flat_map, slice_get}
use Rattle.std.specs.List.{list_any}
use Rattle.std.proofs.lemmas.Bool.Decides.{eqb_tells}
use Rattle.std.proofs.lemmas.Option.{slice_get_past}
use Rattle.tko_text.specs.declared.request.Request.{Request}
use Rattle.tko_pools.specs.Configs.{Configuration}
use Rattle.tko_route.specs.Underway.{Awaited}
use Rattle.tko_reply.specs.Answering.{retrieval}
use Rattle.tko_reply.specs.Interactions.{Interaction}
use Rattle.tko_keys.specs.AtOnce.{ArePlaced, MayStand, PlacedInteraction, interactions_of, own_of}
use Rattle.tko_keys.specs.KeysDriven.{AreUnderWay, outs_at, outs_by, outs_in}
use Rattle.tko_keys.specs.KeysSoFar.{ComesTo, IsKeyCame, IsKeyOut, IsSlotAt, KeysSoFar, is_to_take}
use Rattle.tko_keys.specs.KeysState.{KeySlot, KeysState}
use Rattle.tko_keys.specs.Lines.{key_of, part_for_key}
use Rattle.tko_keys.proofs.PlacedLemmas.{own_more, placed_adds}
use Rattle.tko_keys.proofs.OutLemmas.{count_at, count_in}
use Rattle.tko_keys.proofs.OthersLemmas.{any_none, any_some, untaken}

at_most_one : {config : Configuration} {new : KeysState} (at : ℕ) → AreUnderWay config new
    → count_at at new.came.places ≤ outs_at new.slots at
at_most_one {new = new} at ready =
    omega (arith, ready.once at, count_in at new.due new.sends new.came)

none_past : {config : Configuration} {new : KeysState} (at : ℕ) → AreUnderWay config new
    → length new.slots ≤ at → count_at at new.came.places ≡ 0
none_past {new = new} at ready past =
    omega (arith, at_most_one at ready, ap outs_in (slice_get_past new.slots at past))

just_one : (m : ℕ) → m ≤ 1 → m ≢ 0 → m ≡ 1
just_one m most some = omega (arith, most, some)

zero_or_one : (n : ℕ) (awaited : Option Awaited) → n ≤ outs_by awaited
    → (n ≡ 0) ⊎ ((it : Awaited) × (awaited ≡ Some it) × (n ≡ 1))
zero_or_one n None few = inl (omega (arith, few))
zero_or_one n (Some awaited) few = elim (eqb_tells n 0) [
  | inl eq ↦ inl eq.1
  | inr ne ↦ inr (awaited, refl, just_one n few ne.1)
]

module _ {config : Configuration} {request : Request} {old new : KeysState}
    {done : List Interaction} (s : KeysSoFar config request old done) where
  -- something came for several keys
  pub came_on : (more : List PlacedInteraction) → AreUnderWay config new → new.slots ≡ old.slots
      → new.left ≡ old.left → new.unique ≡ old.unique → new.plan ≡ old.plan → new.lost ≡ old.lost
      → old.came.places ≡ [] → All (MayStand old.plan.grouping) more
      → ((at : ℕ) → count_at at new.came.places ≡ 0 → own_of at more ≡ [])
      → ((at : ℕ) (slot : KeySlot) (awaited : Awaited) → count_at at new.came.places ≡ 1
      → slice_get old.slots at ≡ Some slot → slot.awaited ≡ Some awaited
      → ComesTo (part_for_key new.came (key_of slot)) new.came.reply awaited slot (own_of at more))
      → KeysSoFar config request new (done ++ flat_map interactions_of more)
  came_on more ready slots left unique plan lost none may others mine =
      let here_before : (at : ℕ) → is_to_take at old.came ≡ false =
      λ at. ap (list_any (λ (n : ℕ). n == at)) none in
      record {
        several = s.several;
        ready = ready;
        begun = s.begun;
        whole = s.whole ∙ ap (λ ks. retrieval (s.begun ++ ks) old.unique) (sym left)
            ∙ ap (retrieval (s.begun ++ new.left)) (sym unique);
        all = s.all ∙ sym (ap length slots);
        placed = s.placed ++ more;
        are_placed =
            subst (λ p. ArePlaced p.grouping (length new.slots) (s.placed ++ more)
            (done ++ flat_map interactions_of more)) (sym plan)
            (placed_adds more s.are_placed (omega (arith, ap length slots))
            (λ at past. others at (none_past at ready past)) may);
        each = λ at key slot has is.
            let before : slice_get old.slots at ≡ Some slot =
            ap (λ ss. slice_get ss at) (sym slots) ∙ is in
            let was : IsSlotAt config request key old.came false slot.awaited old.lost slot
            (own_of at s.placed) =
            subst (λ b. IsSlotAt config request key old.came b slot.awaited old.lost slot
            (own_of at s.placed)) (here_before at) (s.each at key slot has before) in
            let few : count_at at new.came.places ≤ outs_by slot.awaited =
            subst (λ n. count_at at new.came.places ≤ n) (ap outs_in is) (at_most_one at ready) in
            elim (zero_or_one (count_at at new.came.places) slot.awaited few) [
              | inl zero_it ↦
                  let gone : is_to_take at new.came ≡ false = any_none at new.came.places zero_it in
                  let own : own_of at (s.placed ++ more) ≡ own_of at s.placed =
                  own_more s.placed more at
                  ∙ ap (λ xs. own_of at s.placed ++ xs) (others at zero_it)
                  ∙ append-nil (own_of at s.placed) in
                  subst (λ b. IsSlotAt config request key new.came b slot.awaited new.lost slot
                  (own_of at (s.placed ++ more))) (sym gone)
                  (subst (IsSlotAt config request key new.came false slot.awaited new.lost slot)
                  (sym own)
                  (subst (λ l. IsSlotAt config request key new.came false slot.awaited l slot
                  (own_of at s.placed)) (sym lost)
                  (untaken config request old.came new.came slot.awaited old.lost key slot
                  (own_of at s.placed) was)))
              | inr one_it ↦
                  let there : is_to_take at new.came ≡ true =
                  any_some at new.came.places one_it.2 in
                  let out : IsKeyOut config request key one_it.0 slot (own_of at s.placed) =
                  subst (λ w. IsSlotAt config request key old.came false w old.lost slot
                  (own_of at s.placed)) one_it.1 was in
                  let came : IsKeyCame config request key
                  (part_for_key new.came (key_of slot)) new.came.reply one_it.0 slot
                  (own_of at (s.placed ++ more)) = record {
                    before = own_of at s.placed;
                    adds = own_of at more;
                    out = out;
                    comes = mine at slot one_it.0 one_it.2 before one_it.1;
                    are = own_more s.placed more at;
                  } in
                  subst (λ b. IsSlotAt config request key new.came b slot.awaited new.lost slot
                  (own_of at (s.placed ++ more))) (sym there)
                  (subst (λ w. IsSlotAt config request key new.came true w new.lost slot
                  (own_of at (s.placed ++ more))) (sym one_it.1) came)
            ];
      }
