use Rattle.tko_options.proofs.serve_command.with_server_options.Goals as goal

pub returns : goal.returns
returns c app reads =
    let ends = c.in_ok-serve.ensures _ reads in
    let clients = c.in_ok-serve-2.ensures _ ends in
    let patience = c.in_ok-serve-3.ensures _ clients in
    let times = c.in_ok-serve-4.ensures _ patience in
    let tracker = c.in_ok-serve-5.ensures _ times in
    c.with_reports.ensures _ tracker
