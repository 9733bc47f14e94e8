-- What the items of a connection mean, by induction on them.
use Rattle.std.proofs.Common.{◌≡◌, ℕ, ◌+◌, ◌≤◌, inr, List, [], ◌∷◌, ◌++◌, sym, ap, subst}
use Rattle.std.proofs.Common.{◌∙◌, arith, length, length-append, append_assoc, append-nil, map}
use Rattle.std.specs.Prelude.{All, flat_map}
use Rattle.std.proofs.lemmas.List.Sums.{sum_by-append, sum_by-cons}
use Rattle.std.proofs.lemmas.List.Elements.{All-cons, All-nil}
use Rattle.tko_model.specs.Records.{Lead}
use Rattle.tko_model.proofs.RecordLemmas.{gains_none}
use Rattle.tko_text.specs.declared.request.Request.{Request}
use Rattle.tko_text.specs.Requests.{request_text}
use Rattle.tko_pipe.specs.declared.waiter.Waiter.{Waiter}
use Rattle.tko_pipe.specs.Fates.{fates_of, leaving}
use Rattle.tko_pipe.specs.Lives.{GaveUp, Got, IsPipeStep, IsTakenResponse, Left, PipeItem}
use Rattle.tko_pipe.specs.Lives.{Pushed, Took, WasConnected, WasShut, Wrote, answered_in, askers_in}
use Rattle.tko_pipe.specs.Lives.{bytes_read_in, form_kept_in, forms_dropped, forms_kept, forms_used}
use Rattle.tko_pipe.specs.Lives.{heard_after, left_in, quitters_in, responses_in, texts_in, took_in}
use Rattle.tko_pipe.specs.Lives.{unread_dropped, unwritten_dropped, written_in}
use Rattle.tko_pipe.specs.Pipes.{IsLive, PipeState}
use Rattle.tko_pipe.specs.Waiters.{all_as_asked, as_asked, gone, gone_if, gone_of, has_gone}
use Rattle.tko_pipe.specs.Waiters.{is_first_gone, lengths_of}
use Rattle.tko_pipe.proofs.GoneLemmas.{given_asked, given_gone, pushed_asked, pushed_gone}
use Rattle.tko_pipe.proofs.GoneLemmas.{taken_forms}
use Rattle.tko_pipe.proofs.KeptLemmas.{given-lengths}
use Rattle.tko_pipe.proofs.LeadsLemmas.{Leads, all_dropped, end_after, leads_none, to_front}
use Rattle.tko_pipe.proofs.LeavingLemmas.{leaves}

pub leads : (old new : PipeState) (items : List PipeItem) → IsLive old.link
    → Lead IsPipeStep old items new → Leads old items new
leads old new [] live e = leads_none old new live e
leads old new (WasConnected ∷ items) live (mid, step, more) =
    let rest = leads mid new items
    (subst (λ (s : PipeState). IsLive s.link) (sym step.state) tt) more in
    let same = step.state in
    record {
      queue = ap (λ (s : PipeState). all_as_asked s.waiters ++ askers_in items) (sym step.state)
          ∙ rest.queue;
      quitters = ap (λ (s : PipeState). gone_of s.waiters ++ quitters_in items) (sym step.state)
          ∙ rest.quitters;
      forms = ap (λ (s : PipeState). s.forms ++ forms_kept items) (sym step.state) ∙ rest.forms;
      written = ap (λ (s : PipeState). s.unwritten ++ texts_in items) (sym same) ∙ rest.written;
      read = ap (λ (s : PipeState). s.unread ++ bytes_read_in items) (sym same) ∙ rest.read;
      answers = rest.answers;
      asked_first = subst (λ (s : PipeState). length s.unwritten ≤ lengths_of s.waiters
          → lengths_of (answered_in items) + length s.unwritten
          ≤ length (written_in items) + lengths_of s.waiters) same rest.asked_first;
      heard = rest.heard ∙ ap (λ (s : PipeState). heard_after s.heard items) same;
      end = end_after old mid new WasConnected items step rest.end;
    }
leads old new (Pushed it ∷ items) live (mid, step, more) =
    let rest = leads mid new items
    (subst (λ (s : PipeState). IsLive s.link) (sym step.state) live) more in
    let text = request_text it.request in
    let waiters : mid.waiters ≡ old.waiters ++ it.waiter ∷ [] =
    ap (λ (s : PipeState). s.waiters) step.state in
    let unwritten : mid.unwritten ≡ old.unwritten ++ text =
    ap (λ (s : PipeState). s.unwritten) step.state in
    let one_length : lengths_of (it.waiter ∷ []) ≡ it.waiter.len =
    omega (arith, sum_by-cons (λ (one : Waiter). one.len) it.waiter []) in
    let lengths : lengths_of mid.waiters ≡ lengths_of old.waiters + it.waiter.len =
    ap lengths_of waiters ∙ sum_by-append (λ one. one.len) old.waiters (it.waiter ∷ [])
    ∙ ap (λ n. lengths_of old.waiters + n) one_length in
    let len : length mid.unwritten ≡ length old.unwritten + length text =
    ap length unwritten ∙ length-append old.unwritten text in
    record {
      queue = pushed_asked old.waiters mid.waiters it.waiter (askers_in items) step.here waiters
          ∙ rest.queue;
      quitters = ap (λ (w : List Waiter). w ++ quitters_in items)
          (pushed_gone old.waiters mid.waiters it.waiter step.here waiters) ∙ rest.quitters;
      forms = ap (λ (s : PipeState). s.forms ++ forms_kept items) (sym step.state) ∙ rest.forms;
      written = sym (append_assoc old.unwritten text (texts_in items))
          ∙ ap (λ (w : List ℕ). w ++ texts_in items) (sym unwritten) ∙ rest.written;
      read = ap (λ (s : PipeState). s.unread ++ bytes_read_in items) (sym step.state) ∙ rest.read;
      answers = rest.answers;
      asked_first = λ within.
          let now_within : length mid.unwritten ≤ lengths_of mid.waiters =
          omega (arith, within, lengths, len, step.len) in
          omega (arith, rest.asked_first now_within, lengths, len, step.len);
      heard = rest.heard ∙ ap (λ (s : PipeState). heard_after s.heard items) step.state;
      end = end_after old mid new (Pushed it) items step rest.end;
    }
leads old new (Wrote bytes ∷ items) live (mid, step, more) =
    let rest = leads mid new items
    (subst (λ (s : PipeState). IsLive s.link) (sym step.state) live) more in
    let waiters : mid.waiters ≡ old.waiters = ap (λ (s : PipeState). s.waiters) step.state in
    let len : length old.unwritten ≡ length bytes + length mid.unwritten =
    ap length step.front ∙ length-append bytes mid.unwritten in
    let wrote : length (bytes ++ written_in items) ≡ length bytes + length (written_in items) =
    length-append bytes (written_in items) in
    record {
      queue = ap (λ (s : PipeState). all_as_asked s.waiters ++ askers_in items) (sym step.state)
          ∙ rest.queue;
      quitters = ap (λ (s : PipeState). gone_of s.waiters ++ quitters_in items) (sym step.state)
          ∙ rest.quitters;
      forms = ap (λ (s : PipeState). s.forms ++ forms_kept items) (sym step.state) ∙ rest.forms;
      written = ap (λ (w : List ℕ). w ++ texts_in items) step.front
          ∙ append_assoc bytes mid.unwritten (texts_in items)
          ∙ ap (λ (w : List ℕ). bytes ++ w) rest.written
          ∙ to_front bytes (written_in items) (unwritten_dropped items) new.unwritten;
      read = ap (λ (s : PipeState). s.unread ++ bytes_read_in items) (sym step.state) ∙ rest.read;
      answers = rest.answers;
      asked_first = λ within.
          let lengths : lengths_of mid.waiters ≡ lengths_of old.waiters = ap lengths_of waiters in
          let now_within : length mid.unwritten ≤ lengths_of mid.waiters =
          omega (arith, within, lengths, len) in
          omega (arith, rest.asked_first now_within, lengths, len, wrote);
      heard = rest.heard ∙ ap (λ (s : PipeState). heard_after s.heard items) step.state;
      end = end_after old mid new (Wrote bytes) items step rest.end;
    }
leads old new (Got bytes now ∷ items) live (mid, step, more) =
    let rest = leads mid new items
    (subst (λ (s : PipeState). IsLive s.link) (sym step.state) live) more in
    let same = step.state in
    let unread : mid.unread ≡ old.unread ++ bytes = ap (λ (s : PipeState). s.unread) same in
    record {
      queue = ap (λ (s : PipeState). all_as_asked s.waiters ++ askers_in items) (sym step.state)
          ∙ rest.queue;
      quitters = ap (λ (s : PipeState). gone_of s.waiters ++ quitters_in items) (sym step.state)
          ∙ rest.quitters;
      forms = ap (λ (s : PipeState). s.forms ++ forms_kept items) (sym step.state) ∙ rest.forms;
      written = ap (λ (s : PipeState). s.unwritten ++ texts_in items) (sym same) ∙ rest.written;
      read = sym (append_assoc old.unread bytes (bytes_read_in items))
          ∙ ap (λ (w : List ℕ). w ++ bytes_read_in items) (sym unread) ∙ rest.read;
      answers = rest.answers;
      asked_first = subst (λ (s : PipeState). length s.unwritten ≤ lengths_of s.waiters
          → lengths_of (answered_in items) + length s.unwritten
          ≤ length (written_in items) + lengths_of s.waiters) same rest.asked_first;
      heard = rest.heard ∙ ap (λ (s : PipeState). heard_after s.heard items) same;
      end = end_after old mid new (Got bytes now) items step rest.end;
    }
leads old new (Took it ∷ items) live (mid, step, more) =
    let rest = leads mid new items
    (subst (λ (s : PipeState). IsLive s.link) (sym step.state) live) more in
    let unwritten : mid.unwritten ≡ old.unwritten =
    ap (λ (s : PipeState). s.unwritten) step.state in
    let lengths : lengths_of old.waiters ≡ it.waiter.len + lengths_of mid.waiters =
    ap lengths_of step.first ∙ sum_by-cons (λ one. one.len) it.waiter mid.waiters in
    let answered : lengths_of (it.waiter ∷ answered_in items)
    ≡ it.waiter.len + lengths_of (answered_in items) =
    sum_by-cons (λ one. one.len) it.waiter (answered_in items) in
    let len : length mid.unwritten ≡ length old.unwritten = ap length unwritten in
    let gone_here = gone_if (has_gone it.waiter.by) it.waiter in
    let forms : old.forms ≡ form_kept_in it ++ mid.forms =
    taken_forms it.waiter.by it.request old.forms step.form
    ∙ ap (λ (s : PipeState). form_kept_in it ++ s.forms) (sym step.state) in
    record {
      queue = ap (λ (w : List Waiter). all_as_asked w ++ askers_in items) step.first
          ∙ ap (λ (w : List Waiter). as_asked it.waiter ∷ w) rest.queue;
      quitters = ap (λ (w : List Waiter). gone_of w ++ quitters_in items) step.first
          ∙ append_assoc gone_here (gone_of mid.waiters) (quitters_in items)
          ∙ ap (λ (w : List Waiter). gone_here ++ w) rest.quitters;
      forms = ap (λ (f : List Request). f ++ forms_kept items) forms
          ∙ append_assoc (form_kept_in it) mid.forms (forms_kept items)
          ∙ ap (λ (f : List Request). form_kept_in it ++ f) rest.forms
          ∙ to_front (form_kept_in it) (forms_used items) (forms_dropped items) new.forms;
      written = ap (λ (w : List ℕ). w ++ texts_in items) (sym unwritten) ∙ rest.written;
      read = ap (λ (w : List ℕ). w ++ bytes_read_in items) step.front
          ∙ append_assoc it.bytes mid.unread (bytes_read_in items)
          ∙ ap (λ (w : List ℕ). it.bytes ++ w) rest.read
          ∙ to_front it.bytes (responses_in items) (unread_dropped items) new.unread;
      answers = All-cons IsTakenResponse it (flat_map took_in items) step.response rest.answers;
      asked_first = λ within.
          let now_within : length mid.unwritten ≤ lengths_of mid.waiters =
          omega (arith, step.written, len) in
          omega (arith, rest.asked_first now_within, lengths, answered, len);
      heard = rest.heard ∙ ap (λ (s : PipeState). heard_after s.heard items) step.state;
      end = end_after old mid new (Took it) items step rest.end;
    }
leads old new (GaveUp it ∷ items) live (mid, step, more) =
    let rest = leads mid new items
    (subst (λ (s : PipeState). IsLive s.link) (sym step.state) live) more in
    let moved = gone it.number it.waiter in
    let waiters : mid.waiters ≡ it.before ++ moved ∷ it.after =
    ap (λ (s : PipeState). s.waiters) step.state in
    let forms : mid.forms ≡ old.forms ++ it.form ∷ [] = ap (λ (s : PipeState). s.forms) step.state in
    let unwritten : mid.unwritten ≡ old.unwritten =
    ap (λ (s : PipeState). s.unwritten) step.state in
    let len : length mid.unwritten ≡ length old.unwritten = ap length unwritten in
    let lengths : lengths_of mid.waiters ≡ lengths_of old.waiters =
    ap lengths_of waiters ∙ given-lengths it.before it.after it.waiter it.number
    ∙ sym (ap lengths_of step.waiters) in
    record {
      queue = ap (λ (w : List Waiter). w ++ askers_in items) (ap all_as_asked step.waiters
          ∙ given_asked it.before it.after it.waiter it.number step.is_client
          ∙ sym (ap all_as_asked waiters)) ∙ rest.queue;
      quitters = sym (append_assoc (gone_of old.waiters) (moved ∷ []) (quitters_in items))
          ∙ ap (λ (w : List Waiter). w ++ quitters_in items) (sym (given_gone old mid it step))
          ∙ rest.quitters;
      forms = sym (append_assoc old.forms (it.form ∷ []) (forms_kept items))
          ∙ ap (λ (f : List Request). f ++ forms_kept items) (sym forms) ∙ rest.forms;
      written = ap (λ (w : List ℕ). w ++ texts_in items) (sym unwritten) ∙ rest.written;
      read = ap (λ (s : PipeState). s.unread ++ bytes_read_in items) (sym step.state) ∙ rest.read;
      answers = rest.answers;
      asked_first = λ within.
          let now_within : length mid.unwritten ≤ lengths_of mid.waiters =
          omega (arith, within, lengths, len) in
          omega (arith, rest.asked_first now_within, lengths, len);
      heard = rest.heard ∙ ap (λ (s : PipeState). heard_after s.heard items) step.state;
      end = end_after old mid new (GaveUp it) items step rest.end;
    }
leads old new (WasShut it ∷ items) live (mid, step, more) =
    let rest = leaves mid new items (fates_of old.link (is_first_gone old.waiters) it.cause)
    (ap (λ (s : PipeState). s.link) step.state) more in
    let waiters : mid.waiters ≡ old.waiters = ap (λ (s : PipeState). s.waiters) step.state in
    record {
      queue = rw (rest.pushed, rest.took) (append-nil (all_as_asked old.waiters)
          ∙ ap all_as_asked (sym waiters ∙ rest.queue));
      quitters = rw (rest.gave, rest.took) (append-nil (gone_of old.waiters)
          ∙ ap gone_of (sym waiters ∙ rest.queue));
      forms = all_dropped old.forms it.forms (forms_kept items) (forms_used items)
          (forms_dropped items) new.forms (ap (λ xs. map (λ one. one.form) xs) rest.gave)
          (ap (λ xs. flat_map form_kept_in xs) rest.took)
          (ap (λ xs. flat_map (λ one. one.forms) xs) rest.was_shut)
          (rest.forms ∙ ap (λ (s : PipeState). s.forms) step.state) step.forms;
      written = all_dropped old.unwritten it.unwritten (texts_in items) (written_in items)
          (unwritten_dropped items) new.unwritten
          (ap (λ xs. flat_map (λ one. request_text one.request) xs) rest.pushed) rest.wrote
          (ap (λ xs. flat_map (λ one. one.unwritten) xs) rest.was_shut)
          (rest.unwritten ∙ ap (λ (s : PipeState). s.unwritten) step.state) step.unwritten;
      read = all_dropped old.unread it.unread (bytes_read_in items) (responses_in items)
          (unread_dropped items) new.unread rest.got
          (ap (λ xs. flat_map (λ one. one.bytes) xs) rest.took)
          (ap (λ xs. flat_map (λ one. one.unread) xs) rest.was_shut)
          (rest.unread ∙ ap (λ (s : PipeState). s.unread) step.state) step.unread;
      answers = subst (All IsTakenResponse) (sym rest.took) (All-nil IsTakenResponse);
      asked_first = λ within.
          let answered : lengths_of (answered_in items) ≡ 0 =
          ap (λ xs. lengths_of (map (λ one. one.waiter) xs)) rest.took in
          omega (arith, within, answered);
      heard = rest.heard ∙ ap (λ (s : PipeState). heard_after s.heard items) step.state;
      end = inr (record {
        before = [];
        last = old;
        it = it;
        left = flat_map left_in items;
        items_are = ap (λ (xs : List PipeItem). WasShut it ∷ xs) rest.only;
        leads = gains_none old;
        live = live;
        cause = step.cause;
        fates = ap (leaving (fates_of old.link (is_first_gone old.waiters) it.cause))
            (sym waiters) ∙ rest.fates;
      });
    }
leads old new (Left it ∷ items) live (mid, step, more) = absurd (subst IsLive step.shut live)
