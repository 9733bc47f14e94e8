-- The requests that are under way: the first at a server, and the last.
use Rattle.std.proofs.Common.{◌≡◌, ◌<◌, ◌-◌, ◌==◌, ℕ, suc, Bool, true, List, [], ◌∷◌, ◌++◌, length}
use Rattle.std.proofs.Common.{Some, None, cond, refl, sym, ap, ◌∙◌, arith, inl, inr}
use Rattle.std.specs.Prelude.{drop, position, remove, slice_index_or, take}
use Rattle.std.proofs.lemmas.Bool.{eqb-true}
use Rattle.std.proofs.lemmas.Bool.Decides.{eqb_tells}
use Rattle.std.proofs.lemmas.Option.{get_or_from_slice_get, none-some, slice_get-get_or}
use Rattle.tko_keys.specs.KeysDriven.{IsLastAt}
use Rattle.tko_keys.specs.KeysState.{KeySend, but_first, first_send, without_first}
use Rattle.tko_keys.proofs.FirstLemmas.{first_found, first_taken, split_at}

abbrev pub at_server : ℕ → KeySend → Bool
at_server server send = send.server == server

-- the others than the first at a server, where it stands between these
without_between : (server : ℕ) (before after : List KeySend) (send : KeySend)
    → first_send server before ≡ None → at_server server send ≡ true
    → without_first server (before ++ send ∷ after) ≡ before ++ after
without_between server [] after send none meets =
    ap (λ b. but_first b send after (without_first server after)) meets
without_between server (one ∷ before) after send none meets = elim (eqb_tells one.server server) [
  | inl eq ↦
      absurd (none-some one (sym none
      ∙ ap (λ b. cond b (Some one) (first_send server before)) eq.0))
  | inr ne ↦
      let rest : first_send server before ≡ None =
      sym (ap (λ b. cond b (Some one) (first_send server before)) ne.0) ∙ none in
      ap (λ b. but_first b one (before ++ send ∷ after)
      (without_first server (before ++ send ∷ after))) ne.0
      ∙ ap (λ xs. one ∷ xs) (without_between server before after send rest meets)
]

-- where the first request at a server is
pub record IsFirstSend (server : ℕ) (sends : List KeySend) (send : KeySend) : Type 0 where
  pub before : List KeySend
  pub after : List KeySend
  pub are : sends ≡ before ++ send ∷ after
  pub others : without_first server sends ≡ before ++ after
  pub meets : send.server ≡ server

pub send_found : (server : ℕ) (sends : List KeySend) (send : KeySend)
    → first_send server sends ≡ Some send → IsFirstSend server sends send
send_found server sends send is =
    let it = first_found (at_server server) sends send is in
    record {
      before = it.before;
      after = it.after;
      are = it.are;
      others = ap (without_first server) it.are
          ∙ without_between server it.before it.after send it.none it.meets;
      meets = eqb-true send.server server it.meets;
    }

-- the others are left where the first was taken from its place
pub others_left : (server : ℕ) (sends : List KeySend) {index : ℕ} {send : KeySend}
    → position (at_server server) sends ≡ Some index → send ≡ slice_index_or sends index send
    → remove sends index ≡ without_first server sends
others_left server sends {send = send} found read =
    let it = first_taken (at_server server) sends send found read in
    it.1 ∙ sym (ap (without_first server) it.0.are
    ∙ without_between server it.0.before it.0.after send it.0.none it.0.meets)

-- one at the server is the last of them where none is behind
pub last_found_at : (server : ℕ) (sends : List KeySend) (back : ℕ) (d : KeySend)
    → back < length sends → ((slice_index_or sends (length sends - 1 - back) d).server ==
    server) ≡ true
    → first_send server (drop (length sends - back) sends) ≡ None
    → IsLastAt server sends (length sends - 1 - back)
last_found_at server sends back d within test none =
    let index : ℕ = length sends - 1 - back in
    let more : suc (length sends - 1 - back) ≡ length sends - back = omega (arith, within) in
    record {
      send = slice_index_or sends index d;
      at = slice_get-get_or sends index d (omega (arith, within));
      meets = eqb-true (slice_index_or sends index d).server server test;
      last = ap (λ n. first_send server (drop n sends)) more ∙ none;
    }

-- the last one at a server, as it is read, among all
pub last_parts : {server index : ℕ} {sends : List KeySend} {send : KeySend}
    → IsLastAt server sends index → send ≡ slice_index_or sends index send
    → (before : List KeySend) × (after : List KeySend) × (sends ≡ before ++ send ∷ after)
    × (remove sends index ≡ before ++ after)
last_parts {server} {index} {sends} {send} last read =
    let this : last.send ≡ send = sym (get_or_from_slice_get sends index last.send send last.at)
    ∙ sym read in (
      take index sends,
      drop (suc index) sends,
      split_at sends index send (last.at ∙ ap Some this),
      refl,
    )
