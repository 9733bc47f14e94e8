use Rattle.std.proofs.Common.{[], string_bytes}
use Rattle.std.proofs.lemmas.Result.{err_from_is_err_and}
use Rattle.tko_commands.specs.KeyLists.{against_of}
use Rattle.tko_commands.proofs.key_lists.printed_keys.Goals as goal

pub returns-in_err-read_keys-clause-err : goal.returns-in_err-read_keys-clause-err
returns-in_err-read_keys-clause-err g c =
    let p = err_from_is_err_and c.from_residual-in_err-read_keys.result c.from_residual-in_err-read_keys.ensures.1 in
    rw (p.1, p.2) (c.in_err-read_keys.ensures.err c.args.options.now)

pub returns-clause-ok : goal.returns-clause-ok
returns-clause-ok g c =
    let counted = c.in_ok-read_keys.ensures.ok in record {
      list = counted.list;
      read = counted.read;
      report =
          c.in_ok-print.ensures (string_bytes c.args.options.now.config) counted.list (against_of c.args.options.now)
          (counted.counted.on (string_bytes c.args.options.now.config) (against_of c.args.options.now) []
          (rw (c.as_str.ensures.value, c.against_of.ensures) at c.in_ok-counts.ensures.ok));
    }
