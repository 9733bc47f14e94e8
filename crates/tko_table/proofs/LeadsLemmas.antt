-- Histories: where one ends, where a beginning of it does, and that no server's stamp falls along
-- it.
use Rattle.std.proofs.Common.{◌≡◌, ℕ, ◌+◌, ◌<◌, ◌≤◌, List, [], ◌∷◌, ◌++◌, length, set, Option, Some}
use Rattle.std.proofs.Common.{None, inl, inr, ⊎_elim, refl, sym, ap, ◌∙◌, subst, arith}
use Rattle.std.proofs.Common.{get_or-set_same, get_or-set_other}
use Rattle.std.proofs.lemmas.Bool.{cases_eq, cases_lt}
use Rattle.std.proofs.lemmas.List.{set_past}
use Rattle.tko_model.specs.declared.mark.Mark.{Mark}
use Rattle.tko_model.specs.declared.mark.Mark.TheVariants.{Up}
use Rattle.tko_model.specs.Settings.{Settings}
use Rattle.tko_model.specs.declared.state.ServerState.{ServerState}
use Rattle.tko_model.specs.Tracker.{after, changed, opened, reply_of, server_at, transition_on}
use Rattle.tko_steps.specs.Legal.{tracker_in}
use Rattle.tko_steps.proofs.SoFarLemmas.{IsNotNewer, IsNotNewer-trans}
use Rattle.tko_table.specs.declared.pass.Change.{Change}
use Rattle.tko_table.specs.History.{HasChangeOf, Leads, Replays}

-- one change further
abbrev next_from : Settings → List ServerState → Change → List ServerState
next_from s first change =
    (after (tracker_in s first) change.number change.op change.server).servers

-- a history has one end
pub leads-once : (s : Settings) (first one other : List ServerState) (history : List Change)
    → Leads s first history one → Leads s first history other
    → one ≡ other
leads-once s first one other [] leads also = leads ∙ sym also
leads-once s first one other (change ∷ history) leads also =
    leads-once s (next_from s first change) one other history leads.1 also.1

-- where the first part of a history ends
pub record Halves (s : Settings) (first last : List ServerState)
    (one other : List Change) : Type 0 where
  pub middle : List ServerState
  pub earlier : Leads s first one middle
  pub later : Leads s middle other last

pub leads-halves : (s : Settings) (first last : List ServerState) (one other : List Change)
    → Leads s first (one ++ other) last
    → Halves s first last one other
leads-halves s first last [] other leads = record { middle = first; earlier = refl; later = leads }
leads-halves s first last (change ∷ one) other leads =
    let rest = leads-halves s (next_from s first change) last one other leads.1 in
    record { middle = rest.middle; earlier = (leads.0, rest.earlier); later = rest.later }

-- ---- stamps

changed-not-newer : (servers : List ServerState) (server : ℕ) (change : Option Mark) (at : ℕ)
    → IsNotNewer (server_at servers at) (server_at (changed servers server change) at)
changed-not-newer servers server None at = inl refl
changed-not-newer servers server (Some mark) at =
    let none : ServerState = record { mark = Up 0; stamp = 0 } in
    let new : ServerState = record { mark = mark; stamp = (server_at servers server).stamp + 1 } in
    let P : ServerState → Type 0 = λ it. IsNotNewer (server_at servers at) it in
    ⊎_elim
    (λ (inside : server < length servers).
    ⊎_elim
    (λ (here : at ≡ server).
    let now : server_at (set servers server new) at ≡ new =
    rw here (get_or-set_same servers server new none inside) in
    let was : (server_at servers at).stamp ≡ (server_at servers server).stamp =
    ap (λ i. (server_at servers i).stamp) here in
    subst P (sym now) (inr (omega (arith, was))))
    (λ (apart : at ≡ server → ⊥).
    subst P (sym (get_or-set_other servers server at new none apart)) (inl refl))
    (cases_eq at server))
    (λ (past : length servers ≤ server).
    let Q : List ServerState → Type 0 = λ it. IsNotNewer (server_at servers at) (server_at it at) in
    subst Q (sym (set_past servers server new past)) (inl refl))
    (cases_lt server (length servers))

-- along a history a server stays as it is, or gets a later stamp
pub leads-not-newer : (s : Settings) (first last : List ServerState) (history : List Change)
    (at : ℕ) → Leads s first history last
    → IsNotNewer (server_at first at) (server_at last at)
leads-not-newer s first last [] at leads = inl (ap (λ it. server_at it at) (sym leads))
leads-not-newer s first last (change ∷ history) at leads =
    let it = transition_on (tracker_in s first) change.number change.op change.server in
    IsNotNewer-trans (server_at first at) (server_at (next_from s first change) at)
    (server_at last at)
    (changed-not-newer first change.server it.change at)
    (leads-not-newer s (next_from s first change) last history at leads.1)

-- ---- replays

-- a server after more changes is as it was, or has a later stamp
pub replays-not-newer : (s : Settings) (seen more : List Change) (then now : List ServerState)
    (at : ℕ) → Replays s seen then
    → Replays s (seen ++ more) now → IsNotNewer (server_at then at) (server_at now at)
replays-not-newer s seen more then now at was is =
    let both = leads-halves s (opened s).servers now seen more is.leads in
    let same : both.middle ≡ then =
    leads-once s (opened s).servers both.middle then seen both.earlier was.leads in
    subst (λ it. IsNotNewer (server_at it at) (server_at now at)) same
    (leads-not-newer s both.middle now more at both.later)

-- the last change of a history is the sequential tracker's
pub record IsMadeLast (s : Settings) (servers : List ServerState) (change : Change)
    (history : List Change) : Type 0 where
  pub reply : reply_of (tracker_in s servers) change.number change.op change.server ≡ change.reply
  pub left : Replays s (history ++ change ∷ [])
      (after (tracker_in s servers) change.number change.op change.server).servers

pub replays-last : (s : Settings) (history : List Change) (change : Change)
    (servers last : List ServerState) → Replays s history servers
    → Replays s (history ++ change ∷ []) last → IsMadeLast s servers change history
replays-last s history change servers last was is =
    let both = leads-halves s (opened s).servers last history (change ∷ []) is.leads in
    let same : both.middle ≡ servers =
    leads-once s (opened s).servers both.middle servers history both.earlier was.leads in
    let made = subst (λ it. Leads s it (change ∷ []) last) same both.later in
    record {
      reply = made.0;
      left = record {
        leads = subst (Leads s (opened s).servers (history ++ change ∷ []))
            made.1 is.leads;
      };
    }

-- ---- a change of one server

changed-other : (servers : List ServerState) (server : ℕ) (change : Option Mark) (at : ℕ)
    → (at ≡ server → ⊥)
    → server_at (changed servers server change) at ≡ server_at servers at
changed-other servers server None at apart = refl
changed-other servers server (Some mark) at apart =
    let none : ServerState = record { mark = Up 0; stamp = 0 } in
    let new : ServerState = record { mark = mark; stamp = (server_at servers server).stamp + 1 } in
    get_or-set_other servers server at new none apart

-- where a server is another at the end of a history, it was changed
changed-within : (s : Settings) (first last : List ServerState) (history : List Change) (server : ℕ)
    → Leads s first history last
    → (server_at last server ≡ server_at first server → ⊥) → HasChangeOf server history
changed-within s first last [] server leads differs =
    absurd (differs (ap (λ it. server_at it server) leads))
changed-within s first last (change ∷ history) server leads differs =
    ⊎_elim
    (λ (same : server ≡ change.server). record {
      earlier = [];
      change = change;
      later = history;
      among = refl;
      on = sym same;
    })
    (λ (apart : server ≡ change.server → ⊥).
    let it = transition_on (tracker_in s first) change.number change.op change.server in
    let kept : server_at (next_from s first change) server ≡ server_at first server =
    changed-other first change.server it.change server apart in
    let rest = changed-within s (next_from s first change) last history server leads.1
    (λ same. differs (same ∙ kept)) in
    record {
      earlier = change ∷ rest.earlier;
      change = rest.change;
      later = rest.later;
      among = ap (λ more. change ∷ more) rest.among;
      on = rest.on;
    })
    (cases_eq server change.server)

pub replays-changed : (s : Settings) (beginning since : List Change) (then now : List ServerState)
    (server : ℕ) → Replays s beginning then
    → Replays s (beginning ++ since) now → (server_at now server ≡ server_at then server → ⊥)
    → HasChangeOf server since
replays-changed s beginning since then now server was is differs =
    let both = leads-halves s (opened s).servers now beginning since is.leads in
    let same : both.middle ≡ then =
    leads-once s (opened s).servers both.middle then beginning both.earlier was.leads in
    changed-within s both.middle now since server both.later
    (λ e. differs (e ∙ ap (λ it. server_at it server) same))
