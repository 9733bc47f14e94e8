-- The history with one more change at its end.
use Rattle.std.proofs.Common.{◌≡◌, ◌+◌, List, [], ◌∷◌, ◌++◌, set, refl, sym, ap, ◌∙◌, subst}
use Rattle.std.proofs.lemmas.List.{append-nil, append_assoc}
use Rattle.tko_model.specs.declared.mark.Mark.{Mark}
use Rattle.tko_model.specs.Settings.{Settings}
use Rattle.tko_model.specs.declared.state.ServerState.{ServerState}
use Rattle.tko_model.specs.declared.transition.Transition.{Transition}
use Rattle.tko_model.specs.Tracker.{after, becomes, changed, has_room, opened, reply_of, server_at}
use Rattle.tko_model.specs.Tracker.{transition}
use Rattle.tko_steps.specs.Legal.{tracker_in}
use Rattle.tko_table.specs.declared.pass.Change.{Change}
use Rattle.tko_table.specs.History.{Begins, Leads, Replays}

Leads-push : (s : Settings) (first last : List ServerState) (history : List Change)
    (change : Change) → Leads s first history last
    → reply_of (tracker_in s last) change.number change.op change.server ≡ change.reply
    → Leads s first (history ++ change ∷ [])
    (after (tracker_in s last) change.number change.op change.server).servers
Leads-push s first last [] change leads same =
    let P : List ServerState → Type 0 = λ it.
    Leads s it (change ∷ [])
    (after (tracker_in s last) change.number change.op change.server).servers in
    subst P leads (same, refl)
Leads-push s first last (one ∷ history) change leads same = (
  leads.0,
  Leads-push s (after (tracker_in s first) one.number one.op one.server).servers last
      history change leads.1 same,
)

-- the sequential tracker puts this mark there, with this reply, and so does the history
pub Replays-push : (s : Settings) (history : List Change) (servers : List ServerState)
    (change : Change) (mark : Mark)
    → Replays s history servers
    → transition s (has_room s servers change.server) change.number change.op
    (server_at servers change.server).mark (server_at servers change.server).stamp
    ≡ becomes mark change.reply
    → Replays s (history ++ change ∷ [])
    (set servers change.server
    (record { mark = mark; stamp = (server_at servers change.server).stamp + 1 }))
Replays-push s history servers change mark replays decides =
    let P : List ServerState → Type 0 =
    λ it. Leads s (opened s).servers (history ++ change ∷ []) it in
    let same : reply_of (tracker_in s servers) change.number change.op change.server
    ≡ change.reply =
    ap (λ (it : Transition). it.reply) decides in
    let left : (after (tracker_in s servers) change.number change.op change.server).servers
    ≡ set servers change.server
    (record { mark = mark; stamp = (server_at servers change.server).stamp + 1 }) =
    ap (λ (it : Transition). changed servers change.server it.change) decides in
    record {
      leads = subst P left
          (Leads-push s (opened s).servers servers history change replays.leads same);
    }

pub Begins-all : (history : List Change) → Begins history history
Begins-all history = record { rest = []; is = sym (append-nil history) }

pub Begins-more : (seen history more : List Change) → Begins seen history
    → Begins seen (history ++ more)
Begins-more seen history more begins =
    record {
      rest = begins.rest ++ more;
      is = ap (λ it. it ++ more) begins.is ∙ append_assoc seen begins.rest more;
    }
