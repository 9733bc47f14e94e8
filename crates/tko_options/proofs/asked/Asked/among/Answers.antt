use Rattle.std.proofs.Common.{rules, codes, ◌≡◌, Some}
use Rattle.std.proofs.lemmas.Result.{err_from_is_err_and}
use Rattle.clap.specs.Words.{found_of, subcommand_name_of}
use Rattle.tko_options.specs.Found.{AreCheckFound, AreDemoFound, AreDryFound, AreFound}
use Rattle.tko_options.specs.Misfits.{IsCheckMisfit, IsMisfit, Unfit, UnfitCheck}
use Rattle.tko_options.proofs.AskedLemmas.{is_command}
use Rattle.tko_options.proofs.MisfitLemmas.{unfit_check, unfit_command}
use Rattle.tko_options.proofs.asked.Asked.among.Goals as goal

pub returns-in_err-of-clause-refused : goal.returns-in_err-of-clause-refused
returns-in_err-of-clause-refused c =
    let named : subcommand_name_of c.args.matches.now ≡ Some (codes "serve") = search rules in
    let p = err_from_is_err_and c.from_residual.result c.from_residual.ensures.1 in
    rw (p.1, p.2)
    (unfit_command c.args.matches.now (found_of c.in-Some.found.now) c.in_err-of.field-0.0
    c.in_err-of.ensures.err
    (λ misfit. Unfit (is_command (codes "serve") IsMisfit c.args.matches.now c.in-Some.found.now
    named c.in-Some.ensures.rows misfit)))

pub returns-in_err-of-3-clause-refused : goal.returns-in_err-of-3-clause-refused
returns-in_err-of-3-clause-refused c =
    let named : subcommand_name_of c.args.matches.now ≡ Some (codes "check") = search rules in
    let p = err_from_is_err_and c.from_residual-in_err-of-3.result c.from_residual-in_err-of-3.ensures.1 in
    rw (p.1, p.2)
    (unfit_check c.args.matches.now (found_of c.in-Some-subcommand_matches-2.found.now) c.in_err-of-3.field-0.0
    c.in_err-of-3.ensures.err
    (λ misfit. UnfitCheck (is_command (codes "check") IsCheckMisfit c.args.matches.now
    c.in-Some-subcommand_matches-2.found.now
    named c.in-Some-subcommand_matches-2.ensures.rows misfit)))

pub returns-in-Some-clause-asks : goal.returns-in-Some-clause-asks
returns-in-Some-clause-asks c =
    let named : subcommand_name_of c.args.matches.now ≡ Some (codes "serve") = search rules in
    is_command (codes "serve") (λ found. AreFound found c.in_ok-of.field-0) c.args.matches.now
    c.in-Some.found.now
    named c.in-Some.ensures.rows c.in_ok-of.ensures.ok

pub returns-in-Some-subcommand_matches-clause-asks :
    goal.returns-in-Some-subcommand_matches-clause-asks
returns-in-Some-subcommand_matches-clause-asks c =
    let named : subcommand_name_of c.args.matches.now ≡ Some (codes "dry") = search rules in
    is_command (codes "dry") (λ found. AreDryFound found c.in_ok-of-2.field-0) c.args.matches.now
    c.in-Some-subcommand_matches.found.now named
    c.in-Some-subcommand_matches.ensures.rows c.in_ok-of-2.ensures

pub returns-in-Some-subcommand_matches-2-clause-asks :
    goal.returns-in-Some-subcommand_matches-2-clause-asks
returns-in-Some-subcommand_matches-2-clause-asks c =
    let named : subcommand_name_of c.args.matches.now ≡ Some (codes "check") = search rules in
    is_command (codes "check") (λ found. AreCheckFound found c.in_ok-of-3.field-0)
    c.args.matches.now
    c.in-Some-subcommand_matches-2.found.now named
    c.in-Some-subcommand_matches-2.ensures.rows c.in_ok-of-3.ensures.ok

pub returns-in-Some-subcommand_matches-3-clause-asks :
    goal.returns-in-Some-subcommand_matches-3-clause-asks
returns-in-Some-subcommand_matches-3-clause-asks c =
    let named : subcommand_name_of c.args.matches.now ≡ Some (codes "demo") = search rules in
    is_command (codes "demo") (λ found. AreDemoFound found c.of-in-Some-subcommand_matches-3.result) c.args.matches.now
    c.in-Some-subcommand_matches-3.found.now named
    c.in-Some-subcommand_matches-3.ensures.rows c.of-in-Some-subcommand_matches-3.ensures
