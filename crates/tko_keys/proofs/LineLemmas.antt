-- Lines for keys that are due at a server.
use Rattle.std.proofs.Common.{◌≡◌, ◌≢◌, ◌<◌, ◌≤◌, ◌+◌, ◌-◌, ◌^◌, ℕ, Bool, true, false, List, []}
use Rattle.std.proofs.Common.{◌∷◌, ◌++◌, length, map, min, suc, drop, take, Option, refl, sym, ap}
use Rattle.std.proofs.Common.{subst, ◌∙◌, append_assoc, append-nil, arith, inl, inr, true≢false}
use Rattle.std.specs.Prelude.{◌||◌, slice_index_or, unwrap_or}
use Rattle.std.specs.Option.{option_map}
use Rattle.std.proofs.Math.Seq.{drop-cons, take-suc}
use Rattle.std.proofs.lemmas.Option.{slice_get_read}
use Rattle.std.specs.List.{list_any}
use Rattle.std.specs.Str.{bytes_eq}
use Rattle.std.proofs.lemmas.List.{map-append}
use Rattle.std.proofs.lemmas.List.Elements.{All-append, All-cons, All-nil}
use Rattle.std.proofs.lemmas.List.Folds.{list_any-append}
use Rattle.std.proofs.lemmas.List.Sums.{sum_by_push}
use Rattle.std.proofs.lemmas.Slice.Eq.{bytes_eq-Decides}
use Rattle.tko_text.specs.Responses.{is_among}
use Rattle.tko_reply.specs.Answering.{retrieval}
use Rattle.tko_keys.specs.KeyLines.{HasFilled, HasJoinedLine, IsKeyLineFor, IsPassedOver, IsPut}
use Rattle.tko_keys.specs.KeysState.{DueKey, KeySlot, LineSoFar}
use Rattle.tko_keys.specs.Lines.{AreDistinctKeys, HasNoRoom, IsLineFull, key_at, key_of}
use Rattle.tko_keys.specs.Lines.{line_length}
use Rattle.tko_keys.specs.Lines.Picks.{none_due}
use Rattle.tko_keys.proofs.PicksLemmas.{picks_goes, picks_stays}

neither : (a b : Bool) → (a || b) ≡ false → (a ≡ false) × (b ≡ false)
neither true b none = absurd (true≢false none)
neither false b none = (refl, none)

-- one more key is apart from the others
pub apart_more : (keys : List (List ℕ)) (key : List ℕ) → AreDistinctKeys keys
    → is_among keys key ≡ false → AreDistinctKeys (keys ++ key ∷ [])
apart_more [] key apart new = (All-nil (λ other. other ≢ key), tt)
apart_more (first ∷ keys) key apart new =
    let parts = neither (bytes_eq first key) (is_among keys key) new in
    let differs : key ≢ first =
    λ same. true≢false (sym ((bytes_eq-Decides first key).1 (sym same)) ∙ parts.0) in (
      All-append (λ other. other ≢ first) keys (key ∷ []) apart.0
          (All-cons (λ other. other ≢ first) key [] differs (All-nil (λ other. other ≢ first))),
      apart_more keys key apart.1 parts.1,
    )

pub length_more : (keys : List (List ℕ)) (key : List ℕ)
    → line_length (keys ++ key ∷ []) ≡ line_length keys + (1 + length key)
length_more keys key = omega (arith, sum_by_push (λ (it : List ℕ). 1 + length it) keys key)

room_stays : (keys : List (List ℕ)) (more key : List ℕ) → HasNoRoom keys key
    → HasNoRoom (keys ++ more ∷ []) key
room_stays keys more key (inl among) =
    inl (list_any-append (λ other. bytes_eq other key) keys (more ∷ [])
    ∙ ap (λ b. b || list_any (λ other. bytes_eq other key) (more ∷ [])) among)
room_stays keys more key (inr long) = inr (omega (arith, long, length_more keys more))

full_more : (slots : List KeySlot) (server : ℕ) (keys : List (List ℕ)) (more : List ℕ)
    (stay : List DueKey) → IsLineFull slots server keys stay
    → IsLineFull slots server (keys ++ more ∷ []) stay
full_more slots server keys more stay full = λ k d within meets.
    room_stays keys more (key_at slots (slice_index_or stay k d).place) (full k d within meets)

-- a key was put into a line
pub joined : {unique : Bool} {keys : List (List ℕ)} {place : ℕ} {key : List ℕ} {old new : LineSoFar}
    → IsKeyLineFor unique keys old
    → new.others ≡ old.others ++ place ∷ [] → new.request ≡ retrieval (keys ++ key ∷ []) unique
    → is_among keys key ≡ false
    → new.bytes ≡ min (old.bytes + (length key + 1)) (2 ^ 64 - 1) → new.bytes ≤ 65536
    → HasJoinedLine unique keys place key old new
joined {unique} {keys} {place} {key} was others is apart bytes fits = record {
  others = others;
  line = record {
    request = record {
      is = is;
      apart = apart_more keys key was.request.apart apart;
      fits = omega (arith, length_more keys key, was.bytes, bytes, fits);
    };
    bytes = omega (arith, length_more keys key, was.bytes, bytes, fits);
  };
}

more_keys : (slots : List KeySlot) (keys : List (List ℕ)) (places : List ℕ) (place : ℕ)
    → (keys ++ map (key_at slots) places) ++ key_at slots place ∷ [] ≡ keys ++ map (key_at slots)
    (places ++ place ∷ [])
more_keys slots keys places place =
    append_assoc keys (map (key_at slots) places) (key_at slots place ∷ [])
    ∙ ap (λ ks. keys ++ ks) (sym (map-append (key_at slots) places (place ∷ [])))

module _ {unique : Bool} {slots : List KeySlot} {server : ℕ} where
  -- nothing was put yet
  pub filled_none : {keys : List (List ℕ)} {line : LineSoFar} → IsKeyLineFor unique keys line
      → HasFilled unique slots server false keys [] line [] line
  filled_none {keys} {line} is = record {
    places = [];
    picks = none_due [] [] [] refl refl refl;
    others = sym (append-nil line.others);
    line = subst (λ ks. IsKeyLineFor unique ks line) (sym (append-nil keys)) is;
    full = λ same. λ k d within. absurd (omega (arith, within));
  }

  pub filled_put : {short : Bool} {keys : List (List ℕ)} {due stay : List DueKey}
      {old mid new : LineSoFar} (it : DueKey)
      (filled : HasFilled unique slots server short keys due old stay mid)
      → IsPut unique slots server (keys ++ map (key_at slots) filled.places) it mid new
      → HasFilled unique slots server short keys (due ++ it ∷ []) old stay new
  filled_put {short} {keys} {due} {stay} {old} {mid} {new} it filled put =
      let so_far : List (List ℕ) = keys ++ map (key_at slots) filled.places in
      let more = more_keys slots keys filled.places it.place in
      record {
        places = filled.places ++ it.place ∷ [];
        picks = picks_goes it put.meets filled.picks;
        others = put.joined.others ∙ ap (λ xs. xs ++ it.place ∷ []) filled.others
            ∙ append_assoc old.others filled.places (it.place ∷ []);
        line = subst (λ ks. IsKeyLineFor unique ks new) more put.joined.line;
        full = λ whole. subst (λ ks. IsLineFull slots server ks stay) more
            (full_more slots server so_far (key_at slots it.place) stay (filled.full whole));
      }

  pub filled_passed : {short : Bool} {keys : List (List ℕ)} {due stay : List DueKey}
      {old mid new : LineSoFar} (it : DueKey)
      (filled : HasFilled unique slots server short keys due old stay mid)
      → IsPassedOver unique slots server (keys ++ map (key_at slots) filled.places) it mid new
      → HasFilled unique slots server short keys (due ++ it ∷ []) old (stay ++ it ∷ []) new
  filled_passed {short} {keys} {due} {stay} {old} {mid} {new} it filled passed = record {
    places = filled.places;
    picks = picks_stays it filled.picks;
    others = ap (λ (line : LineSoFar). line.others) passed.same ∙ filled.others;
    line = subst (λ (line : LineSoFar). IsKeyLineFor unique
        (keys ++ map (key_at slots) filled.places) line) (sym passed.same) filled.line;
    full = λ whole.
        let P : DueKey → Type 0 =
        λ (one : DueKey). one.server ≡ server
        → HasNoRoom (keys ++ map (key_at slots) filled.places) (key_at slots one.place) in
        All-append P stay (it ∷ []) (filled.full whole) (All-cons P it [] passed.full (All-nil P));
  }

  pub filled_short : {short : Bool} {keys : List (List ℕ)} {due stay : List DueKey}
      {old mid new : LineSoFar} (it : DueKey)
      (filled : HasFilled unique slots server short keys due old stay mid) → new ≡ mid
      → HasFilled unique slots server true keys (due ++ it ∷ []) old (stay ++ it ∷ []) new
  filled_short {short} {keys} {due} {stay} {old} {mid} {new} it filled same = record {
    places = filled.places;
    picks = picks_stays it filled.picks;
    others = ap (λ (line : LineSoFar). line.others) same ∙ filled.others;
    line = subst (λ (line : LineSoFar). IsKeyLineFor unique
        (keys ++ map (key_at slots) filled.places) line) (sym same) filled.line;
    full = λ whole. absurd (true≢false whole);
  }

-- the first of the keys that are due was taken off
pub popped : (all stay due rest : List DueKey) (index : ℕ) (it : DueKey) → index < length all
    → due ≡ drop index all ++ stay → due ≡ it ∷ rest
    → (rest ≡ drop (index + 1) all ++ stay) × (take (index + 1) all ≡ take index all ++ it ∷ [])
popped all stay due rest index it within are popped_it =
    let at = drop-cons all index it within in
    let both : slice_index_or all index it ∷ (drop (suc index) all ++ stay) ≡ it ∷ rest =
    sym (ap (λ xs. xs ++ stay) at) ∙ sym are ∙ popped_it in
    let heads : slice_index_or all index it ≡ it = cc in
    let tails : drop (suc index) all ++ stay ≡ rest = cc in
    let more : index + 1 ≡ suc index = omega arith in (
      sym tails ∙ ap (λ n. drop n all ++ stay) (sym more),
      ap (λ n. take n all) more ∙ take-suc all index it within
          ∙ ap (λ k. take index all ++ k ∷ []) heads,
    )

-- keys were put into a line, whatever keys it had
abbrev pub FilledFor : List KeySlot → ℕ → Bool → List DueKey → LineSoFar → List DueKey → LineSoFar
    → Type 0
FilledFor slots server short due first stay new =
    (unique : Bool) (keys : List (List ℕ)) → IsKeyLineFor unique keys first
    → HasFilled unique slots server short keys due first stay new

module _ {slots : List KeySlot} {server : ℕ} {short : Bool} {stay : List DueKey}
    {first mid : LineSoFar} (new : LineSoFar) (all : List DueKey) (index : ℕ) (it : DueKey)
    (filled : FilledFor slots server short (take index all) first stay mid)
    (taken : take (index + 1) all ≡ take index all ++ it ∷ []) where
  pub step_put : ((unique : Bool) (keys : List (List ℕ)) → IsKeyLineFor unique keys mid
      → IsPut unique slots server keys it mid new)
      → FilledFor slots server short (take (index + 1) all) first stay new
  step_put put = λ unique keys was.
      let f = filled unique keys was in
      subst (λ ds. HasFilled unique slots server short keys ds first stay new) (sym taken)
      (filled_put it f (put unique (keys ++ map (key_at slots) f.places) f.line))

  pub step_passed : ((unique : Bool) (keys : List (List ℕ)) → IsKeyLineFor unique keys mid
      → IsPassedOver unique slots server keys it mid new)
      → FilledFor slots server short (take (index + 1) all) first (stay ++ it ∷ []) new
  step_passed passed = λ unique keys was.
      let f = filled unique keys was in
      subst (λ ds. HasFilled unique slots server short keys ds first (stay ++ it ∷ []) new)
      (sym taken)
      (filled_passed it f (passed unique (keys ++ map (key_at slots) f.places) f.line))

  pub step_short : ((unique : Bool) (keys : List (List ℕ)) → IsKeyLineFor unique keys mid
      → new ≡ mid)
      → FilledFor slots server true (take (index + 1) all) first (stay ++ it ∷ []) new
  step_short same = λ unique keys was.
      let f = filled unique keys was in
      subst (λ ds. HasFilled unique slots server true keys ds first (stay ++ it ∷ []) new)
      (sym taken)
      (filled_short it f (same unique (keys ++ map (key_at slots) f.places) f.line))

-- the key of a place as it is read
pub key_read : (slots : List KeySlot) (place : ℕ) (found : KeySlot) → place < length slots
    → found ≡ slice_index_or slots place found → key_of found ≡ key_at slots place
key_read slots place found within read =
    sym (ap (λ (o : Option KeySlot). unwrap_or (option_map key_of o) [])
    (slice_get_read slots (length slots) place found refl within read))
