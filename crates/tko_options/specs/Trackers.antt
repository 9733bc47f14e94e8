-- The settings of the tracker that the options name.
use Rattle.std.specs.Prelude.{ℕ}
use Rattle.tko_model.specs.declared.one_group.OneGroup.{OneGroup}
use Rattle.tko_options.specs.declared.dry_options.DryOptions.{DryOptions}
use Rattle.tko_options.specs.declared.serve_options.ServeOptions.{ServeOptions}

-- how many threads the tracker of `dry` has
abbrev pub dry_threads : ℕ
dry_threads = 4

-- of a tracker of `servers` servers, in a dry run
abbrev pub dry_settings : DryOptions → ℕ → OneGroup
dry_settings options servers = record {
  servers = servers;
  threads = dry_threads;
  failures = options.failures;
  limit = options.limit;
  tries = options.tries;
  opening_stamp = 0;
}

-- of a tracker of `servers` servers, in a server
abbrev pub serve_settings : ServeOptions → ℕ → OneGroup
serve_settings options servers = record {
  servers = servers;
  threads = options.threads;
  failures = options.failures;
  limit = options.limit;
  tries = options.tries;
  opening_stamp = 0;
}
