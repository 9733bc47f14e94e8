-- Where one key came further, the others are due, under way or not taken on as before.
use Rattle.std.proofs.Common.{◌≡◌, ◌≢◌, ℕ, Bool, false, List, [], ◌∷◌, map, Option, Some, None}
use Rattle.std.proofs.Common.{refl, sym, ap, subst, ◌∙◌, arith}
use Rattle.std.specs.Prelude.{slice_index_or, unwrap_or}
use Rattle.std.specs.Option.{option_map}
use Rattle.tko_text.specs.declared.request.Request.{Request}
use Rattle.tko_pools.specs.Configs.{Configuration}
use Rattle.tko_route.specs.Underway.{Awaited}
use Rattle.tko_keys.specs.declared.plan.Grouping.{Grouping}
use Rattle.tko_keys.specs.KeysDriven.{HaveCome, HaveParts, IsDueAt, IsOutAt, IsSentAt}
use Rattle.tko_keys.specs.KeysDriven.{due as due_at}
use Rattle.tko_keys.specs.KeysState.{DueKey, KeySend, KeySlot, KeysCame, failed_by, has_failed}
use Rattle.tko_keys.specs.KeysState.{has_values, listed_by}
use Rattle.tko_keys.specs.Lines.{IsLineForKeys, IsSentBy, key_at, key_of}
use Rattle.tko_keys.proofs.PlaceLemmas.{IsChanged}
use Rattle.tko_keys.proofs.OutLemmas.{apart_at, count_at, count_cons, ne_from, no_more}

-- a key whose request is under way has not ended
pub out_no_values : (slot : KeySlot) (awaited : Awaited) → slot.awaited ≡ Some awaited
    → has_values slot ≡ false
out_no_values slot awaited out = ap (λ w. listed_by w slot.key.share) out

pub out_not_failed : (slot : KeySlot) (awaited : Awaited) → slot.awaited ≡ Some awaited
    → has_failed slot ≡ false
out_not_failed slot awaited out = ap (λ w. failed_by w slot.key.share) out

-- the keys of other places stay
keys_same : {old new : List KeySlot} {place : ℕ} {now : KeySlot} → IsChanged old place now new
    → (places : List ℕ) → count_at place places ≡ 0
    → map (key_at new) places ≡ map (key_at old) places
keys_same changed [] none = refl
keys_same {old} {new} {place} changed (one ∷ places) none =
    let all = count_cons place one places in
    let same : key_at new one ≡ key_at old one =
    ap (λ (o : Option KeySlot). unwrap_or (option_map key_of o) [])
    (changed.others one (ne_from one place (no_more _ (omega (arith, none, all))))) in
    ap (λ k. k ∷ map (key_at new) places) same
    ∙ ap (λ ks. key_at old one ∷ ks) (keys_same changed places (omega (arith, none, all)))

by_stays : {old new : List KeySlot} {place : ℕ} {now : KeySlot} → IsChanged old place now new
    → (grouping : Grouping) (unique : Bool) (places : List ℕ) (line : Option Request)
    → count_at place places ≡ 0 → IsSentBy grouping unique old places line
    → IsSentBy grouping unique new places line
by_stays changed grouping unique places None none by = by
by_stays changed grouping unique places (Some line) none by = (
  by.0,
  by.1,
  subst (λ ks. IsLineForKeys unique ks line) (sym (keys_same changed places none))
      by.2,
)

module _ {config : Configuration} {old new : List KeySlot} {place : ℕ} {now : KeySlot}
    (changed : IsChanged old place now new) where
  pub due_stays : (it : DueKey) → it.place ≢ place → IsDueAt config old it → IsDueAt config new it
  due_stays it apart is =
      record {
        slot = is.slot;
        awaited = is.awaited;
        at = changed.others it.place apart ∙ is.at;
        is = is.is;
        server = is.server;
      }

  out_stays : (one : ℕ) → one ≢ place → IsOutAt config old one → IsOutAt config new one
  out_stays one apart is =
      record {
        slot = is.slot;
        awaited = is.awaited;
        at = changed.others one apart ∙ is.at;
        is = is.is;
      }

  pub sent_stays : (grouping : Grouping) (unique : Bool) (send : KeySend)
      → count_at place send.places ≡ 0 → IsSentAt config grouping unique old send
      → IsSentAt config grouping unique new send
  sent_stays grouping unique send none is = record {
    each = λ k d within. due_stays (due_at (slice_index_or send.places k d) send.server)
        (apart_at place send.places none k d within) (is.each k d within);
    by = by_stays changed grouping unique send.places send.line none is.by;
  }

  pub came_stays : (came : KeysCame) → count_at place came.places ≡ 0 → HaveCome config old came
      → HaveCome config new came
  came_stays came none is = record {
    each = λ k d within. out_stays (slice_index_or came.places k d)
        (apart_at place came.places none k d within) (is.each k d within);
    parts = subst (HaveParts came.shared) (sym (keys_same changed came.places none)) is.parts;
    replied = is.replied;
  }
