-- What comes of reading from a server, and who waits after that.
use Rattle.std.proofs.Common.{◌≡◌, ◌⊎◌, ℕ, ◌<◌, List, [], ◌∷◌, ◌++◌, refl, sym, ap, subst, ◌∙◌, inl}
use Rattle.std.proofs.Common.{inr, length, Option, Some, None}
use Rattle.std.specs.Prelude.{slice_get, slice_set, slice_index_or}
use Rattle.std.proofs.lemmas.Bool.{cases_eq}
use Rattle.tko_text.specs.declared.request.Request.{Request}
use Rattle.tko_text.specs.declared.request.Request.TheVariants as request
use Rattle.tko_pipe.specs.declared.waiter.Asker.TheVariants as asker
use Rattle.tko_pipe.specs.declared.waiter.Waiter.{Waiter}
use Rattle.tko_pipe.specs.Pipes.{PipeState, pushing}
use Rattle.std.specs.Prelude.{IfSome, OnErr, OnOk, Result, Ok, Err}
use Rattle.tko_text.specs.declared.response.Response.{Response}
use Rattle.tko_pipe.specs.declared.fates.ShutCause.{ShutCause}
use Rattle.tko_pipe.specs.declared.waiter.Asker.{Asker}
use Rattle.tko_roster.proofs.SlotLemmas.{at_index}
use Rattle.tko_mux.specs.declared.mux.delivery.Delivery.{Delivery}
use Rattle.tko_mux.specs.Asks.{AskingActs}
use Rattle.tko_mux.specs.Lines.{IsLinePushed, LineState, first_on, waiters, pipe_waiters}
use Rattle.tko_mux.specs.Linking.{AreLinked, AwaitsBy, AwaitsFirst, IsFree, Linked, awaited_at}
use Rattle.tko_mux.specs.Linking.{waiters_at, waiters_on}
use Rattle.tko_mux.specs.Muxes.{GoesToClient, HasNoneLeaving, IsResponseRead, MuxState, ReadsOn, WaitsFor}
use Rattle.tko_mux.proofs.LinkingLemmas.{IsWithout, first_awaits, first_loose, first_without, gone_taken}
use Rattle.tko_mux.proofs.LinkingLemmas.{last_without, probe_linked, probe_taken, same_linked}
use Rattle.tko_mux.proofs.LineLemmas.{OneLeaves, TakeLeaves, others_wait, pushed_waits}
use Rattle.tko_mux.proofs.LineLemmas.{read_leaves, set_waits}

awaits_by : (aw : ℕ → List ℕ) (queue : ℕ → List Waiter) (server : ℕ) (by : Asker) (it : Waiter)
    (rest : List Waiter) → Linked aw queue → queue server ≡ it ∷ rest → it.by ≡ by
    → AwaitsBy aw server by
awaits_by aw queue server (asker.Client number) it rest linked is by =
    first_awaits aw queue server number it rest linked is by
awaits_by aw queue server asker.Probe it rest linked is by = tt
awaits_by aw queue server (asker.GaveUp number) it rest linked is by = tt

-- one that left the front of a line is free to take what came
frees : (aw : ℕ → List ℕ) (old new : ℕ → List Waiter) (server : ℕ) (by : Asker) → Linked aw old
    → IsWithout server by old new → IsFree aw new server by
frees aw old new server (asker.Client number) linked one =
    first_loose aw old new server number linked one
frees aw old new server asker.Probe linked one = probe_taken aw old new server linked one
frees aw old new server (asker.GaveUp number) linked one =
    gone_taken aw old new server number linked one

pub one_free : {S P : Type 0} (awaited : S → List ℕ) (p old : MuxState S P) (server : ℕ)
    (by : Asker) (was now : LineState) → p ≡ old → server < length p.lines
    → was ≡ slice_index_or p.lines server was → AreLinked awaited old.roster.slots old.lines
    → OneLeaves by (waiters was) (waiters now)
    → IsFree (awaited_at awaited p.roster.slots) (waiters_at (slice_set p.lines server now)) server
    by
one_free {S} {P} awaited p old server by was now same below read linked one =
    let here : AreLinked awaited p.roster.slots p.lines =
    subst (λ (m : MuxState S P). AreLinked awaited m.roster.slots m.lines) (sym same) linked in
    let at : waiters_at p.lines server ≡ waiters was =
    ap waiters_on (at_index p.lines server was below read) in
    let front : waiters_at p.lines server
    ≡ one.waiter ∷ waiters_at (slice_set p.lines server now) server =
    at ∙ one.front
    ∙ ap (λ (w : List Waiter). one.waiter ∷ w) (sym (set_waits p.lines server now below)) in
    frees (awaited_at awaited p.roster.slots) (waiters_at p.lines)
    (waiters_at (slice_set p.lines server now)) server by here
    (subst (λ (it : Asker). IsWithout server it (waiters_at p.lines)
    (waiters_at (slice_set p.lines server now))) (sym one.is_by)
    (first_without (waiters_at p.lines) (waiters_at (slice_set p.lines server now)) server
    one.waiter front (λ other apart. others_wait p.lines server now other apart)))

-- a line on which the same wait as before
pub line_linked : {S P : Type 0} (awaited : S → List ℕ) (p old : MuxState S P) (server : ℕ)
    (was now : LineState) → p ≡ old → server < length p.lines
    → was ≡ slice_index_or p.lines server was → AreLinked awaited old.roster.slots old.lines
    → waiters now ≡ waiters was
    → AreLinked awaited p.roster.slots (slice_set p.lines server now)
line_linked {S} {P} awaited p old server was now same below read linked waits =
    let here : AreLinked awaited p.roster.slots p.lines =
    subst (λ (m : MuxState S P). AreLinked awaited m.roster.slots m.lines) (sym same) linked in
    let at : waiters_at p.lines server ≡ waiters was =
    ap waiters_on (at_index p.lines server was below read) in
    let mine : waiters_at (slice_set p.lines server now) server ≡ waiters_at p.lines server =
    set_waits p.lines server now below ∙ waits ∙ sym at in
    same_linked (awaited_at awaited p.roster.slots) (awaited_at awaited p.roster.slots)
    (waiters_at p.lines) (waiters_at (slice_set p.lines server now)) here (λ number. refl)
    (λ other. elim (cases_eq other server) [
      | inl me ↦
          subst (λ s. waiters_at (slice_set p.lines server now) s ≡ waiters_at p.lines s)
          (sym me) mine
      | inr ne ↦ others_wait p.lines server now other ne
    ])

-- a probe at the end of a line
pub probed_linked : {S P : Type 0} (awaited : S → List ℕ) (p old : MuxState S P) (server : ℕ)
    (was now : LineState) (it : Waiter) → p ≡ old → server < length p.lines
    → was ≡ slice_index_or p.lines server was → AreLinked awaited old.roster.slots old.lines
    → it.by ≡ asker.Probe → waiters now ≡ waiters was ++ it ∷ []
    → AreLinked awaited p.roster.slots (slice_set p.lines server now)
probed_linked {S} {P} awaited p old server was now it same below read linked by waits =
    let here : AreLinked awaited p.roster.slots p.lines =
    subst (λ (m : MuxState S P). AreLinked awaited m.roster.slots m.lines) (sym same) linked in
    let at : waiters_at p.lines server ≡ waiters was =
    ap waiters_on (at_index p.lines server was below read) in
    let mine : waiters_at (slice_set p.lines server now) server
    ≡ waiters_at p.lines server ++ it ∷ [] =
    set_waits p.lines server now below ∙ waits
    ∙ ap (λ (w : List Waiter). w ++ it ∷ []) (sym at) in
    probe_linked (awaited_at awaited p.roster.slots) (waiters_at p.lines)
    (waiters_at (slice_set p.lines server now)) server here
    (subst (λ (one : Asker). IsWithout server one (waiters_at (slice_set p.lines server now))
    (waiters_at p.lines)) by
    (last_without (waiters_at p.lines) (waiters_at (slice_set p.lines server now)) server it mine
    (λ other apart. others_wait p.lines server now other apart)))

-- nobody is left on the line that was read
pub none_leaving : {S P : Type 0} (p old : MuxState S P) (server : ℕ) (was : LineState) → p ≡ old
    → server < length p.lines → was ≡ slice_index_or p.lines server was
    → HasNoneLeaving (slice_get old.lines server) → was.ended ≡ None
none_leaving {S} {P} p old server was same below read none =
    subst HasNoneLeaving (at_index p.lines server was below read)
    (subst (λ (m : MuxState S P). HasNoneLeaving (slice_get m.lines server)) (sym same) none)

-- the first that waits on a line awaits its server
first_waiting : (aw : ℕ → List ℕ) (queue : ℕ → List Waiter) (server : ℕ) (here : List Waiter)
    → Linked aw queue → queue server ≡ here → AwaitsFirst aw server (slice_get here 0)
first_waiting aw queue server [] linked is = tt
first_waiting aw queue server (it ∷ rest) linked is =
    awaits_by aw queue server it.by it rest linked is refl

first_on_pipe : (aw : ℕ → List ℕ) (queue : ℕ → List Waiter) (server : ℕ)
    (pipe : Option PipeState) → Linked aw queue → queue server ≡ pipe_waiters pipe
    → AwaitsFirst aw server (first_on pipe)
first_on_pipe aw queue server None linked is = tt
first_on_pipe aw queue server (Some pipe) linked is =
    first_waiting aw queue server pipe.waiters linked is

pub first_on_line : {S P : Type 0} (awaited : S → List ℕ) (p old : MuxState S P) (server : ℕ)
    (was : LineState) → p ≡ old → server < length p.lines
    → was ≡ slice_index_or p.lines server was → AreLinked awaited old.roster.slots old.lines
    → HasNoneLeaving (slice_get old.lines server)
    → AwaitsFirst (awaited_at awaited p.roster.slots) server (first_on was.pipe)
first_on_line {S} {P} awaited p old server was same below read linked left =
    let here : AreLinked awaited p.roster.slots p.lines =
    subst (λ (m : MuxState S P). AreLinked awaited m.roster.slots m.lines) (sym same) linked in
    let at : waiters_at p.lines server ≡ waiters was =
    ap waiters_on (at_index p.lines server was below read) in
    let none : was.ended ≡ None = none_leaving p old server was same below read left in
    let all : waiters was ≡ pipe_waiters was.pipe =
    ap (λ (e : Option PipeState). pipe_waiters e ++ pipe_waiters was.pipe) none in
    first_on_pipe (awaited_at awaited p.roster.slots) (waiters_at p.lines) server was.pipe here
    (at ∙ all)

-- one to whom a response came is free to take it
pub read_free : {S P : Type 0} (awaited : S → List ℕ) (waits_for : WaitsFor S)
    (p old : MuxState S P)
    (server : ℕ) (by : Asker) (response : Response) (was now : LineState)
    (taken : Result (Option (Asker × Response)) ShutCause) → p ≡ old → server < length p.lines
    → was ≡ slice_index_or p.lines server was → AreLinked awaited old.roster.slots old.lines
    → HasNoneLeaving (slice_get old.lines server) → ReadsOn waits_for p.roster server was taken now
    → taken ≡ Ok (Some (by, response))
    → IsFree (awaited_at awaited p.roster.slots) (waiters_at (slice_set p.lines server now)) server
    by
read_free {S} {P} awaited waits_for p old server by response was now taken same below read linked
    left reads is =
    let none : was.ended ≡ None = none_leaving p old server was same below read left in
    let leaves : TakeLeaves (Ok (Some (by, response))) (waiters was) (waiters now) =
    subst (λ (t : Result (Option (Asker × Response)) ShutCause).
    TakeLeaves t (waiters was) (waiters now)) is
    (read_leaves waits_for p.roster server (first_on was.pipe) was now taken none reads) in
    one_free awaited p old server by was now same below read linked leaves

-- where no response came, all wait as before
pub unread_linked : {S P : Type 0} (awaited : S → List ℕ) (waits_for : WaitsFor S)
    (p old : MuxState S P) (server : ℕ) (was now : LineState)
    (taken : Result (Option (Asker × Response)) ShutCause) → p ≡ old → server < length p.lines
    → was ≡ slice_index_or p.lines server was → AreLinked awaited old.roster.slots old.lines
    → HasNoneLeaving (slice_get old.lines server) → ReadsOn waits_for p.roster server was taken now
    → (taken ≡ Ok None) ⊎ ((cause : ShutCause) × (taken ≡ Err cause))
    → AreLinked awaited p.roster.slots (slice_set p.lines server now)
unread_linked {S} {P} awaited waits_for p old server was now taken same below read linked left reads
    none =
    let ended : was.ended ≡ None = none_leaving p old server was same below read left in
    let leaves = read_leaves waits_for p.roster server
    (first_on was.pipe) was now taken ended reads in
    let Leaves : Result (Option (Asker × Response)) ShutCause → Type 0 =
    λ t. TakeLeaves t (waiters was) (waiters now) in
    let waits : waiters now ≡ waiters was =
    elim none [
      | inl is ↦ subst Leaves is leaves
      | inr (cause, is) ↦ subst Leaves is leaves
    ] in
    line_linked awaited p old server was now same below read linked waits

-- a response was looked for, and reached whom it was for
pub reached : {S P I O : Type 0} (acts : AskingActs S P I O) (awaited : S → List ℕ)
    (asks_for : S → Option Request) (waits_for : WaitsFor S) (p old : MuxState S P)
    (server due : ℕ) (was now : LineState)
    (taken found : Result (Option (Asker × Response)) ShutCause)
    (result : Result (Option (Delivery O)) ShutCause) (new : MuxState S P) → p ≡ old
    → server < length p.lines → was ≡ slice_index_or p.lines server was
    → ReadsOn waits_for p.roster server was taken now → taken ≡ found
    → GoesToClient acts awaited asks_for (record p { lines = slice_set p.lines server now }) server found
    due result new
    → IsResponseRead acts awaited asks_for waits_for old server due result new
reached {S} {P} {I} {O} acts awaited asks_for waits_for p old server due was now taken found result
    new same below read reads is reaches =
    let Read : MuxState S P → Type 0 = λ m.
    IsResponseRead acts awaited asks_for waits_for m server due result new in
    subst Read same (record {
      taken = found;
      lines = slice_set p.lines server now;
      on = record {
        was = was;
        now = now;
        from = at_index p.lines server was below read;
        ends = subst (λ (t : Result (Option (Asker × Response)) ShutCause).
            ReadsOn waits_for p.roster server was t now) is reads;
        to = refl;
      };
      reaches = reaches;
    })

-- what holds of the line that was read
pub of_line : {S P : Type 0} (holds : LineState → Type 0) (p old : MuxState S P) (server : ℕ)
    (was : LineState) → p ≡ old → server < length p.lines
    → was ≡ slice_index_or p.lines server was → IfSome (slice_get old.lines server) holds
    → holds was
of_line {S} {P} holds p old server was same below read is =
    subst (λ (line : Option LineState). IfSome line holds) (at_index p.lines server was below read)
    (subst (λ (m : MuxState S P). IfSome (slice_get m.lines server) holds) (sym same) is)

-- a probe at the end of a line, or no memory for it
pub probe_ends : {S P E : Type 0} (awaited : S → List ℕ) (p old : MuxState S P)
    (server limit due : ℕ) (was now : LineState) (result : Result Unit E) → p ≡ old
    → server < length p.lines → was ≡ slice_index_or p.lines server was
    → AreLinked awaited old.roster.slots old.lines
    → OnOk result (IsLinePushed limit was (pushing asker.Probe due request.Version) now)
    → OnErr result (now ≡ was)
    → AreLinked awaited p.roster.slots (slice_set p.lines server now)
probe_ends awaited p old server limit due was now (Ok done) same below read linked pushed failed =
    let it = pushing asker.Probe due request.Version in
    probed_linked awaited p old server was now it.waiter same below read linked refl
    (pushed_waits limit was now it pushed)
probe_ends awaited p old server limit due was now (Err fault) same below read linked pushed failed =
    line_linked awaited p old server was now same below read linked (ap waiters failed)
