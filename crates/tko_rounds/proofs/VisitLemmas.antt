-- What one visit did, from what its calls say.
use Rattle.std.proofs.Common.{◌≡◌, ◌≢◌, ◌+◌, ℕ, ◌⊎◌, true, false, List, Option, Some, None, inl, inr, length, refl, slice_get, subst, sym, ap, ◌∙◌}
use Rattle.std.specs.Option.{option_and_then}
use Rattle.tko_model.specs.declared.mark.Reply.{Reply}
use Rattle.tko_health.specs.declared.health.Health.{Ghosts as HealthGhosts}
use Rattle.tko_links.specs.Links.{part_of}
use Rattle.tko_mux.specs.Awaits.{no_memory}
use Rattle.tko_mux.specs.Lines.{LineState}
use Rattle.tko_mux.specs.declared.asking.Came.{Came}
use Rattle.tko_port.specs.Ports.{PortState}
use Rattle.tko_port.specs.declared.peer.Peer.{Peer}
use Rattle.tko_prober.specs.declared.backend.Backend.{Backend}
use Rattle.tko_prober.specs.declared.prober.Prober.{Prober}
use Rattle.tko_prober.specs.declared.prober.ProberStage.{ProberStage}
use Rattle.tko_prober.specs.declared.prober.ProberStage.TheVariants.{Ended, Out, Resting}
use Rattle.tko_prober.specs.Halves.{IsOut, IsResult}
use Rattle.tko_prober.specs.Probers.{prober_of}
use Rattle.tko_reply.specs.declared.parts.Parts.{Parts}
use Rattle.tko_client.specs.declared.lent.Lent.{Lent}
use Rattle.tko_worker.proofs.ChangesLemmas.{keeps_on}
use Rattle.tko_worker.specs.Turns.{probed_at}
use Rattle.tko_worker.specs.declared.event_worker.EventWorker.{EventWorker}
use Rattle.tko_rounds.specs.Parts.{DueAt, OnlyProbingChanges, with_begun, with_probing}
use Rattle.tko_rounds.specs.Probes.{IsNoneOut, IsOneOut, IsProbeCounted, ProbesState, count_of, is_counted_probe, probed_of_came, with_out}
use Rattle.tko_rounds.specs.Rounds.{HasNext, HasProbeCome, HasProbeTaken, Lost, ProbeTaking, RoundState, asked, unasked}
use Rattle.tko_rounds.specs.Workers.{KeepsServers, OnlyRoundChanges, parts_in}

-- a probe is out, or is not
stage_out : (stage : ProberStage) → (stage ≡ Out) ⊎ (stage ≡ Out → ⊥)
stage_out (Resting due) = inr (λ out. cc)
stage_out Out = inl refl
stage_out Ended = inr (λ out. cc)

out_in : (found : Option Prober)
    → ((prober : Prober) × (found ≡ Some prober) × (prober.stage ≡ Out))
    ⊎ ((prober : Prober) → found ≡ Some prober → prober.stage ≡ Out → ⊥)
out_in None = inr (λ prober has out. cc)
out_in (Some own) =
    elim (stage_out own.stage) [
      | inl out ↦ inl (own, refl, out)
      | inr other ↦ inr (λ prober has out. let same : own ≡ prober = cc in other (ap (λ (p : Prober). p.stage) same ∙ out))
    ]

module _ {H L C : Type 0} (health : HealthGhosts H) where
  -- a result was recorded if a probe is out, and else nothing was
  pub come_of : (moment : ℕ) (old : Backend H L C) (server : ℕ) (came : Came) (reply : Option Reply) (new : Backend H L C)
      → ((prober : Prober) → IsOut old.probers server prober
      → IsResult health.steps moment old server prober (probed_of_came came) reply new)
      → (((prober : Prober) → ¬ IsOut old.probers server prober) → (reply ≡ None) × (new ≡ old))
      → HasProbeCome health moment old server (record { came = came; reply = reply }) new
  come_of moment old server came reply new result none =
      elim (out_in (prober_of old.probers server)) [
        | inl found ↦
            let out : IsOut old.probers server found.0 = record { has = found.1; out = found.2 } in
            asked found.0 out (result found.0 out)
        | inr other ↦
            let left = none (λ prober out. other prober out.has out.out) in
            unasked (λ prober out. other prober out.has out.out) left.0 left.1
      ]

module _ {H L C : Type 0} where
  -- the links and the clock of a backend stay
  pub probing_of : (old new : Backend H L C) → (new.links ≡ old.links) × (new.clock ≡ old.clock)
      → new ≡ record old { health = new.health; probers = new.probers }
  probing_of old new (links, clock) = rw (sym links, sym clock) refl

module _ {H T C : Type 0} {servers : H → ℕ} where
  -- where only health and probers change, all sessions stay ready
  pub only_probing : (old new : Parts H (List ℕ) T C) → new ≡ with_probing new.backend old
      → servers new.backend.health ≡ servers old.backend.health → OnlyProbingChanges servers old new
  only_probing old new is same = record {
    others = is;
    stays = record {
      config = ap (λ (p : Parts H (List ℕ) T C). p.config) is;
      health = same;
      links = ap (λ (p : Parts H (List ℕ) T C). length p.backend.links) is;
    };
  }

  -- nothing changes
  pub probing_none : (at : Parts H (List ℕ) T C) → OnlyProbingChanges servers at at
  probing_none at = only_probing at at refl refl

  -- they change, and then again
  pub probing_on : {one two three : Parts H (List ℕ) T C} → OnlyProbingChanges servers one two
      → OnlyProbingChanges servers two three → OnlyProbingChanges servers one three
  probing_on {one} {two} {three} first second =
      only_probing one three (second.others ∙ ap (with_probing three.backend) first.others)
      (second.stays.health ∙ first.stays.health)

  -- so they do where probers begin
  pub probing_begun : (moment : ℕ) (old new : Parts H (List ℕ) T C) → new ≡ with_begun moment old
      → OnlyProbingChanges servers old new
  probing_begun moment old new is =
      subst (λ (p : Parts H (List ℕ) T C). OnlyProbingChanges servers old p) (sym is)
      (only_probing old (with_begun moment old) refl refl)

-- there are as many servers as before, and then again
pub servers_on : {L S P : Type 0} {port : L → PortState}
    {one two three : ProbesState × EventWorker L S P}
    → KeepsServers port one two → KeepsServers port two three → KeepsServers port one three
servers_on first second = record {
  out = second.out ∙ first.out;
  lines = second.lines ∙ first.lines;
  sockets = λ server. second.sockets server ∙ first.sockets server;
  count = second.count ∙ first.count;
}

module _ {L S R H T C : Type 0} {health : HealthGhosts H} {count : H → ℕ} {port : L → PortState} where
  -- nothing changes
  pub only_none : (at : ProbesState × EventWorker L S (Lent R H T C health))
      → OnlyRoundChanges count port at at
  only_none at = record {
    parts = probing_none (parts_in at.1.clients);
    clients = record { slots = refl; touched = refl; spent = refl; ends = refl };
    servers = record { out = refl; lines = refl; sockets = λ server. refl; count = refl };
  }

  -- a round changes this, and then that
  pub only_on : {one two three : ProbesState × EventWorker L S (Lent R H T C health)}
      → OnlyRoundChanges count port one two → OnlyRoundChanges count port two three
      → OnlyRoundChanges count port one three
  only_on first second = record {
    parts = probing_on first.parts second.parts;
    clients = keeps_on first.clients second.clients;
    servers = servers_on first.servers second.servers;
  }

pub probed_same : {L : Type 0} (old new : List (Peer L)) (at : ℕ) → slice_get new at ≡ slice_get old at
    → probed_at new at ≡ probed_at old at
probed_same {L} old new at same = ap (λ (peer : Option (Peer L)). option_and_then (λ it. it.probed) peer) same

module _ {H L C : Type 0} {health : HealthGhosts H} where
  -- what came of the probe that is out was taken
  pub took_one : (moment server : ℕ) (old : RoundState H L C) (limit : ℕ) (backend : Backend H L C) (lines : List LineState)
      (arrived : ℕ → Option Came) (mid probes : ProbesState) (it : ProbeTaking)
      → IsOneOut old.probes server → old.came server ≡ Some it.came → arrived server ≡ None
      → ((at : ℕ) → at ≢ server → arrived at ≡ old.came at) → HasProbeCome health moment old.backend server it backend
      → mid ≡ with_out server false old.probes → IsProbeCounted it.came server mid probes
      → limit ≡ old.limit → lines ≡ old.lines
      → HasProbeTaken health moment old server
      (record { limit = limit; backend = backend; lines = lines; came = arrived; probes = probes })
  took_one moment server old limit backend lines arrived mid probes it out has gone others come
      is_mid counted is_limit is_lines = record {
        it = Some it;
        takes = (
          out,
          record {
            came = has;
            left = gone;
            same = others;
            has_come = come;
            counted = λ at. counted.counted at
                ∙ ap (λ (p : ProbesState). count_of p at
                + part_of (is_counted_probe it.came) server at) is_mid;
            counts = counted.counts ∙ ap (λ (p : ProbesState). length p.counts) is_mid;
            out = counted.out ∙ ap (λ (p : ProbesState). p.out) is_mid;
            others = rw (is_limit, is_lines) refl;
          },
        );
      }

  -- memory ran out for a probe that was due
  pub next_lost : (moment due server duty : ℕ) (old : RoundState H L C) (limit : ℕ) (backend mid : Backend H L C)
      (lines : List LineState) (probes : ProbesState) (reply : Option Reply)
      → IsNoneOut old.probes server → DueAt health moment server old.backend (Some duty) mid
      → HasProbeCome health moment mid server (record { came = no_memory; reply = reply }) backend
      → probes ≡ old.probes → limit ≡ old.limit → lines ≡ old.lines
      → HasNext health moment due old server true
      (record { limit = limit; backend = backend; lines = lines; came = old.came; probes = probes })
  next_lost moment due server duty old limit backend mid lines probes reply free (named, sent) failed is_probes is_limit is_lines = record {
    it = Lost;
    sends = record {
      free = free;
      mid = mid;
      sent = sent;
      reply = reply;
      failed = failed;
      others = rw (is_probes, is_limit, is_lines) refl;
    };
    memory = refl;
  }
