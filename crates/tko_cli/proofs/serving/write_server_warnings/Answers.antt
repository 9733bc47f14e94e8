use Rattle.tko_cli.proofs.serving.write_server_warnings.Goals as goal

pub returns : goal.returns
returns g c = record {
  middle = c.write_warnings.new.outlet;
  warnings = rw c.as_str.ensures.value at c.write_warnings.ensures;
  addresses = c.write_odd_options.ensures;
}
