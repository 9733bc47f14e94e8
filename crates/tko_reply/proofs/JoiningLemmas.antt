-- Laws of a key that ended: its response in the reply, and what follows it.
use Rattle.std.proofs.Common.{◌≡◌, ℕ, ◌<◌, Bool, true, false, List, [], ◌∷◌, ◌++◌, length, map}
use Rattle.std.proofs.Common.{zero, suc, refl, sym, ap, subst, ◌∙◌, append-nil, arith}
use Rattle.tko_text.specs.declared.request.Request.{Request}
use Rattle.tko_text.specs.SentRequests.{asks_no_reply, without_noreply}
use Rattle.tko_pools.specs.Configs.{Configuration, targets_of}
use Rattle.tko_route.specs.Calls.{RoutedCall}
use Rattle.tko_route.specs.Trail.{IsTrail, MakesTrail, answer_of, form_at}
use Rattle.tko_route.specs.declared.attempt.Attempt.{Attempt}
use Rattle.tko_reply.specs.Answering.{retrieval}
use Rattle.tko_reply.specs.Answers.{IsKeyRouted, form_in}
use Rattle.tko_reply.specs.Answers as answers
use Rattle.tko_reply.specs.Asking.{ContinuesKeys, Joins, Replies}
use Rattle.tko_reply.specs.Asking as asked
use Rattle.tko_reply.specs.Interactions.{Interaction, Made, Recorded}
use Rattle.tko_reply.specs.Replies.{IsReply, reply_written, routed_key, trail_reply_text}
use Rattle.tko_reply.specs.TrailEvents.{Tried}
use Rattle.tko_reply.specs.declared.asking.OneKey.{OneKey}
use Rattle.tko_reply.specs.declared.asking.ReplyPart.{ReplyPart}
use Rattle.tko_reply.specs.declared.asking.ReplyPart.TheVariants as share
use Rattle.tko_reply.proofs.AnsweringLemmas.{one_reply, request_for_alone, request_for_one}
use Rattle.tko_reply.proofs.AnsweringLemmas.{routed_by}
use Rattle.tko_reply.proofs.StandsLemmas.{IsAnswered, IsAt, IsPast, JoinsOn, alone, among, complete}
use Rattle.tko_reply.proofs.StandsLemmas.{only, values_joined}
use Rattle.tko_reply.proofs.ValuesLemmas.{joins_all, joins_cut, joins_more}

-- a request for values is sent in one form
form_of_only : (exptime : ℕ) (key : List ℕ) (unique : Bool) (place : ℕ)
    → form_at exptime (without_noreply (only key unique)) place ≡ only key unique
form_of_only exptime key true zero = refl
form_of_only exptime key true (suc place) = refl
form_of_only exptime key false zero = refl
form_of_only exptime key false (suc place) = refl

-- a share is not of both kinds
whole_or_joined : {silent : Bool} {begin : ℕ} {left : List (List ℕ)}
    → share.Whole silent ≡ share.Joined begin left → ⊥
whole_or_joined e = cc

false_or_true : false ≡ true → ⊥
false_or_true e = cc

left_same : {begin begin' : ℕ} {left left' : List (List ℕ)}
    → share.Joined begin left ≡ share.Joined begin' left' → left ≡ left'
left_same e = cc

begin_same : {begin begin' : ℕ} {left left' : List (List ℕ)}
    → share.Joined begin left ≡ share.Joined begin' left' → begin ≡ begin'
begin_same e = cc

key_same : (one other : OneKey) → one.request ≡ other.request → one.share ≡ other.share
    → one ≡ other
key_same one other request kind =
    ap (λ (r : Request). record { request = r; share = one.share }) request
    ∙ ap (λ (s : ReplyPart). record { request = other.request; share = s }) kind

module _ {config : Configuration} where
  past_among : {outbox outbox' outbox'' : List ℕ} {was : List Interaction} {kind : ReplyPart}
      (all left : List (List ℕ)) (unique : Bool) (key : List ℕ) (trail : List Attempt)
      (asking : Request) (more : List Interaction)
      → 0 < length all → JoinsOn config (retrieval all unique) all (key ∷ left) outbox was outbox'
      → IsKeyRouted config (retrieval all unique) (routed_key key trail) more
      → asking ≡ only key unique
      → Joins (length outbox) left (answer_of trail) outbox' kind outbox''
      → IsPast config (retrieval all unique) outbox (record { request = asking; share = kind })
      (was ++ more) outbox''
  past_among all left unique key trail asking more some so_far is form
      (asked.other none kind text) =
      complete false kind (joins_cut all unique key left trail more some so_far is none text)
  past_among all left unique key trail asking more some so_far is form
      (asked.values found kind text) =
      values_joined all left unique key refl some (key_same _ _ form kind)
      (joins_more all unique key left trail more so_far is found text)

  -- a key has ended, and its trail was recorded
  pub past_ended : {request : Request} {outbox outbox' outbox'' : List ℕ} {was : List Interaction}
      {key : List ℕ} {first : OneKey} {kind : ReplyPart} (trail : List Attempt)
      (calls : List RoutedCall) (place : ℕ)
      → IsAt config request outbox key first was outbox' → IsTrail (targets_of config key) trail
      → MakesTrail (form_in config first.request) calls trail
      → Replies first.share (answer_of trail) outbox' kind outbox''
      → IsPast config request outbox
      (record { request = form_in config first.request place; share = kind })
      (was ++ (map Made calls ++ Recorded (Tried trail) ∷ [])) outbox''
  past_ended {request} {outbox} {outbox'} {outbox''} {was} {key} {first} {kind} trail calls place
      (alone e keys none same) tried make replies =
      let more = map Made calls ++ Recorded (Tried trail) ∷ [] in
      let said = subst (λ (o : OneKey). Replies o.share (answer_of trail) outbox' kind outbox'') e
      replies in
      let is : IsKeyRouted config request (routed_key key trail) more =
      routed_by request key trail calls refl tried make
      (ap (λ (o : OneKey). o.request) e ∙ sym (request_for_alone request key keys)) in
      complete (asks_no_reply request) said.0 (record {
        routed = routed_key key trail ∷ [];
        text = reply_written request (trail_reply_text trail);
        answers = answers.by_keys (record {
          some = omega (arith, ap length keys);
          each = (more, [], is, refl, ap (λ xs. xs ++ more) none ∙ sym (append-nil more));
          reply = trail_reply_text trail;
          is_reply = subst (λ ks. IsReply 1 ks (routed_key key trail ∷ []) (trail_reply_text trail))
              (sym keys) (one_reply key trail);
          is_written = refl;
        });
        appended = said.1 ∙ ap (λ xs. xs ++ reply_written request (trail_reply_text trail)) same;
      })
  past_ended {request} {outbox} {outbox'} {outbox''} {was} {key} {first} {kind} trail calls place
      (among all left unique whole some e so_far) tried make replies =
      let more = map Made calls ++ Recorded (Tried trail) ∷ [] in
      let said : Joins (length outbox) left (answer_of trail) outbox' kind outbox'' =
      subst (λ (o : OneKey). Replies o.share (answer_of trail) outbox' kind outbox'') e replies in
      let is : IsKeyRouted config (retrieval all unique) (routed_key key trail) more =
      routed_by (retrieval all unique) key trail calls refl tried make
      (ap (λ (o : OneKey). o.request) e ∙ request_for_one all unique key) in
      let form : form_in config first.request place ≡ only key unique =
      ap (λ (o : OneKey). form_in config o.request place) e
      ∙ form_of_only config.failover_exptime key unique place in
      subst (λ (r : Request). IsPast config r outbox
      (record { request = form_in config first.request place; share = kind })
      (was ++ more) outbox'') (sym whole)
      (past_among all left unique key trail
      (form_in config first.request place) more some so_far is form said)

  -- the reply is complete once no key is left
  pub past_over : {request : Request} {outbox outbox' outbox'' : List ℕ} {was : List Interaction}
      {one other : OneKey} → IsPast config request outbox one was outbox'
      → ContinuesKeys one outbox' false other outbox''
      → IsAnswered config request outbox was outbox''
  past_over {request} {outbox} {was = was} (complete silent kind done)
      (asked.complete silent' kind' over same) =
      subst (λ xs. IsAnswered config request outbox was xs) (sym same) done
  past_over (complete silent kind done) (asked.last begin kind' over same) =
      absurd (whole_or_joined (sym kind ∙ kind'))
  past_over (complete silent kind done) (asked.next begin key left kind' on alike then same) =
      absurd (false_or_true on)
  past_over (values_joined all left unique key is some e so_far)
      (asked.complete silent kind over same) =
      absurd (whole_or_joined (sym kind ∙ ap (λ (o : OneKey). o.share) e))
  past_over {request} {outbox} {outbox'} {outbox''} {was}
      (values_joined all left unique key is some e so_far) (asked.last begin kind over same) =
      let none : left ≡ [] = left_same (sym (ap (λ (o : OneKey). o.share) e) ∙ kind) in
      subst (λ (r : Request). IsAnswered config r outbox was outbox'') (sym is)
      (joins_all all unique some
      (subst (λ ks. JoinsOn config (retrieval all unique) all ks outbox was outbox') none
      so_far) same)
  past_over (values_joined all left unique key is some e so_far)
      (asked.next begin key' left' kind on alike then same) = absurd (false_or_true on)

  -- the next of several keys is to be asked for
  pub past_next : {request : Request} {outbox outbox' outbox'' : List ℕ} {was : List Interaction}
      {one other : OneKey} → IsPast config request outbox one was outbox'
      → ContinuesKeys one outbox' true other outbox''
      → (key : List ℕ) × IsAt config request outbox key other was outbox''
  past_next past (asked.complete silent kind over same) = absurd (false_or_true (sym over))
  past_next past (asked.last begin kind over same) = absurd (false_or_true (sym over))
  past_next (complete silent kind done) (asked.next begin key left kind' on alike then same) =
      absurd (whole_or_joined (sym kind ∙ kind'))
  past_next {request} {outbox} {outbox'} {outbox''} {was} {one} {other}
      (values_joined all left unique before is some e so_far)
      (asked.next begin key rest kind on alike then same) =
      let shares : share.Joined (length outbox) left ≡ share.Joined begin (key ∷ rest) =
      sym (ap (λ (o : OneKey). o.share) e) ∙ kind in
      let joins = subst (λ ks. JoinsOn config (retrieval all unique) all ks outbox was outbox')
      (left_same shares) so_far in
      let it : other ≡ record {
        request = only key unique;
        share = share.Joined (length outbox) rest;
      } =
      key_same other (record {
        request = only key unique;
        share = share.Joined (length outbox) rest;
      })
      (alike (before ∷ []) unique (ap (λ (o : OneKey). o.request) e))
      (then ∙ ap (λ n. share.Joined n rest) (sym (begin_same shares))) in (
        key,
        among all rest unique is some it
            (subst (λ xs. JoinsOn config (retrieval all unique) all (key ∷ rest) outbox was xs)
            (sym same) joins),
      )
