-- What an event-driven worker knows of its probes, and what came of one.
use Rattle.std.specs.Prelude.{◌≡◌, ℕ, ◌+◌, Bool, true, false, List, Some, count_by, length, replicate, slice_get, slice_index, slice_set}
use Rattle.tko_links.specs.Links.{is_counted, part_of}
use Rattle.tko_mux.specs.declared.asking.Came.{Came}
use Rattle.tko_prober.specs.declared.prober.Probed.{Probed}
use Rattle.tko_prober.specs.Probers.{probed_of}
use Rattle.tko_client.specs.Comings.{result_of}

-- how often each server was probed, and whether a probe of it is out
pub record ProbesState : Type 0 where
  pub counts : List ℕ
  pub out : List Bool

-- none of so many servers was probed
abbrev pub no_probes : ℕ → ProbesState
no_probes servers = record { counts = replicate servers 0; out = replicate servers false }

-- how often a server was probed
abbrev pub count_of : ProbesState → ℕ → ℕ
count_of probes server = slice_index probes.counts server

-- a probe of this server is out
abbrev pub IsOneOut : ProbesState → ℕ → Type 0
IsOneOut probes server = slice_get probes.out server ≡ Some true

-- none is
abbrev pub IsNoneOut : ProbesState → ℕ → Type 0
IsNoneOut probes server = slice_get probes.out server ≡ Some false

-- how many servers have a probe out
abbrev pub outs : ProbesState → ℕ
outs probes = count_by (λ is_out. is_out) probes.out

-- a probe of this server is out from now on, or is not any more
abbrev pub with_out : ℕ → Bool → ProbesState → ProbesState
with_out server is_out probes = record probes { out = slice_set probes.out server is_out }

-- what came of a probe, to its prober, as the blocking worker's
abbrev pub probed_of_came : Came → Probed
probed_of_came came = probed_of (result_of came)

-- whether a probe that came to this counts as one
abbrev pub is_counted_probe : Came → Bool
is_counted_probe came = is_counted (result_of came)

-- a probe of this server that came to this counts as one, if it does; nothing else is counted, and
-- the same probes are out
pub record IsProbeCounted (came : Came) (server : ℕ) (old new : ProbesState) : Type 0 where
  pub counted : (at : ℕ)
      → count_of new at ≡ count_of old at + part_of (is_counted_probe came) server at
  pub uncounted : is_counted_probe came ≡ false → new ≡ old
  pub counts : length new.counts ≡ length old.counts
  pub out : new.out ≡ old.out
