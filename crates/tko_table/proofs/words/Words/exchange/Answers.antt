use Rattle.std.proofs.Common.{◌<◌, ◌∙◌, ap, arith, subst, sym}
use Rattle.tko_steps.proofs.TableLemmas.{eq-same_server}
use Rattle.tko_model.specs.Settings.{Settings}
use Rattle.tko_word.specs.Words.{server_in}
use Rattle.tko_steps.specs.declared.table.Action.{Action}
use Rattle.tko_steps.specs.declared.table.Observed.{Observed}
use Rattle.tko_steps.specs.declared.table.Observed.TheVariants as read
use Rattle.tko_table.specs.Steps.{Took, read_in, view_of}
use Rattle.tko_table.proofs.ValueLemmas.{allows-exchange_at}
use Rattle.tko_table.proofs.SharedLemmas.{word-expected}
use Rattle.tko_table.proofs.words.Words.exchange.Goals as goal

pub place_of-place-requires : goal.place_of-place-requires
place_of-place-requires c = omega (arith, c.requires.exchange.server, c.args.self.now.ranges.servers.1)

pub compare_exchange-requires : goal.compare_exchange-requires
compare_exchange-requires c =
    let words = c.args.self.now in
    let at = c.requires.exchange.stands in
    let on_server = subst (λ (it : Settings). c.args.call.now.server < it.servers) (sym words.key) c.requires.exchange.server in (
      c.requires.seat,
      omega (arith, c.requires.exchange.server, words.count, c.place_of-place.ensures),
      allows-exchange_at words.table.shared.key _ _ _ at.pass c.args.call.now c.args.phase
          c.args.found c.args.mark
          c.word_of-expected.result c.word_after-new.result c.place_of-place.result c.place_of-place.ensures at.alone at.stands c.requires.exchange.action on_server
          c.word_of-expected.ensures.valid c.word_of-expected.ensures.back c.word_after-new.ensures.valid c.word_after-new.ensures.back,
    )

pub returns-clause-step : goal.returns-clause-step
returns-clause-step c =
    let at = c.requires.exchange.stands in
    let told = c.compare_exchange.ensures.2.0 in
    let P : Observed → Type 0 = λ it.
    Took (view_of c.args.seat.now) c.args.call.now c.args.phase it (view_of c.compare_exchange.new.seat) in
    let Q : Action → Type 0 = λ it. P (read_in it c.compare_exchange.result) in
    let tests = c.is_won.ensures ∙ word-expected c.compare_exchange.result c.word_of-expected.result c.args.found told.valid
    c.word_of-expected.ensures.valid c.word_of-expected.ensures.back in
    subst P (ap read.Done (sym tests))
    (subst Q c.requires.exchange.action (told.plays at.pass c.args.call.now c.args.phase at.alone at.stands))

pub returns-clause-own : goal.returns-clause-own
returns-clause-own c = λ marked.
    let at = c.requires.exchange.stands in
    let told = c.compare_exchange.ensures.2.0 in
    let stands = told.stands at.pass c.args.call.now c.args.phase c.args.found c.args.mark at.alone c.place_of-place.ensures at.stands c.requires.exchange.action marked in
    c.is_won.ensures
    ∙ word-expected c.compare_exchange.result c.word_of-expected.result c.args.found told.valid
    c.word_of-expected.ensures.valid c.word_of-expected.ensures.back
    ∙ eq-same_server (server_in c.compare_exchange.result) c.args.found stands
