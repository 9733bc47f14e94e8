-- What the items of a connection mean that was not shut: what holds where there are none, and what
-- stays with one more.
use Rattle.std.proofs.Common.{◌≡◌, ◌+◌, ◌≤◌, ◌⊎◌, inl, inr, List, [], ◌∷◌, ◌++◌, sym, ap, subst}
use Rattle.std.proofs.Common.{◌∙◌, arith, length, append_assoc, append-nil}
use Rattle.std.specs.Prelude.{All, flat_map}
use Rattle.std.proofs.lemmas.List.Elements.{All-nil}
use Rattle.tko_pipe.specs.Lives.{IsEnd, IsPipeStep, IsTakenResponse, PipeItem, answered_in, askers_in}
use Rattle.tko_pipe.specs.Lives.{bytes_read_in, forms_dropped, forms_kept, forms_used, heard_after}
use Rattle.tko_pipe.specs.Lives.{places_asked, quitters_in, responses_in, texts_in, took_in}
use Rattle.tko_pipe.specs.Lives.{unread_dropped, unwritten_dropped, written_in}
use Rattle.tko_pipe.specs.Pipes.{IsLive, PipeState}
use Rattle.tko_pipe.specs.Waiters.{all_as_asked, gone_of, lengths_of}

-- what the items lead to, from a connection that was not shut
pub record Leads (old : PipeState) (items : List PipeItem) (new : PipeState) : Type 0 where
  pub queue : all_as_asked old.waiters ++ askers_in items
      ≡ all_as_asked (places_asked items new.waiters)
  pub quitters : gone_of old.waiters ++ quitters_in items ≡ gone_of (places_asked items new.waiters)
  pub forms : old.forms ++ forms_kept items
      ≡ forms_used items ++ forms_dropped items ++ new.forms
  pub written : old.unwritten ++ texts_in items
      ≡ written_in items ++ unwritten_dropped items ++ new.unwritten
  pub read : old.unread ++ bytes_read_in items ≡ responses_in items ++ unread_dropped items ++ new.unread
  pub answers : All IsTakenResponse (flat_map took_in items)
  pub asked_first : length old.unwritten ≤ lengths_of old.waiters
      → lengths_of (answered_in items) + length old.unwritten
      ≤ length (written_in items) + lengths_of old.waiters
  pub heard : new.heard ≡ heard_after old.heard items
  pub end : IsLive new.link ⊎ IsEnd old items new

pub leads_none : (old new : PipeState) → IsLive old.link → new ≡ old → Leads old [] new
leads_none old new live e = record {
  queue = append-nil (all_as_asked old.waiters)
      ∙ sym (ap (λ (s : PipeState). all_as_asked s.waiters) e);
  quitters = append-nil (gone_of old.waiters) ∙ sym (ap (λ (s : PipeState). gone_of s.waiters) e);
  forms = append-nil old.forms ∙ sym (ap (λ (s : PipeState). s.forms) e);
  written = append-nil old.unwritten ∙ sym (ap (λ (s : PipeState). s.unwritten) e);
  read = append-nil old.unread ∙ sym (ap (λ (s : PipeState). s.unread) e);
  answers = All-nil IsTakenResponse;
  asked_first = λ within. omega (arith, within);
  heard = ap (λ (s : PipeState). s.heard) e;
  end = inl (subst (λ (s : PipeState). IsLive s.link) (sym e) live);
}

-- the end is where it was, with one item more before it
pub end_after : (old mid new : PipeState) (item : PipeItem) (items : List PipeItem)
    → IsPipeStep old item mid → IsLive new.link ⊎ IsEnd mid items new
    → IsLive new.link ⊎ IsEnd old (item ∷ items) new
end_after old mid new item items step (inl live) = inl live
end_after old mid new item items step (inr is) = inr (record {
  before = item ∷ is.before;
  last = is.last;
  it = is.it;
  left = is.left;
  items_are = ap (λ (xs : List PipeItem). item ∷ xs) is.items_are;
  leads = record { leads = (mid, step, is.leads.leads) };
  live = is.live;
  cause = is.cause;
  fates = is.fates;
})

pub to_front : {X : Type 0} → (xs one two three : List X)
    → xs ++ (one ++ two ++ three) ≡ (xs ++ one) ++ two ++ three
to_front xs one two three =
    sym (append_assoc xs (one ++ two) three)
    ∙ ap (λ w. w ++ three) (sym (append_assoc xs one two))

-- all that there was is dropped
pub all_dropped : {X : Type 0} → (old it more front dropped new : List X) → more ≡ [] → front ≡ [] → dropped ≡ []
    → new ≡ [] → it ≡ old → old ++ more ≡ front ++ (it ++ dropped) ++ new
all_dropped old it more front dropped new a b c d e =
    rw (a, b, c, d, e) (sym (append-nil (old ++ [])))
