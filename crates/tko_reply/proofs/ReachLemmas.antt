-- That health, links and probers have the servers of the configuration, and keep them.
use Rattle.std.proofs.Common.{◌≡◌, ℕ, List, ◌∙◌}
use Rattle.tko_route.specs.declared.attempt.Attempt.{Attempt}
use Rattle.tko_prober.proofs.ProberLemmas.{length-noted}
use Rattle.tko_reply.specs.Answers.{Reaches}
use Rattle.tko_reply.specs.Interactions.{with_health, with_links, with_noted}
use Rattle.tko_reply.specs.declared.parts.Parts.{Parts}

module _ {H L T C : Type 0} {servers : H → ℕ} {linked : L → ℕ} where
  -- health was asked or told something
  pub told_reach : {at : Parts H L T C} {after : H} → Reaches servers linked at
      → servers after ≡ servers at.backend.health
      → Reaches servers linked (with_health after at)
  told_reach reach same = record
      { health = same ∙ reach.health; links = reach.links; probers = reach.probers }

  -- a request or a trail was recorded
  pub recorded_reach : {at : Parts H L T C} {after : T} → Reaches servers linked at
      → Reaches servers linked (record at { trails = after })
  recorded_reach reach = record
      { health = reach.health; links = reach.links; probers = reach.probers }

  -- the links are other ones with as many servers
  pub linked_reach : {at : Parts H L T C} {after : L} → Reaches servers linked at
      → linked after ≡ linked at.backend.links
      → Reaches servers linked (with_links after at)
  linked_reach reach same =
      record { health = reach.health; links = same ∙ reach.links; probers = reach.probers }

  -- more servers are going to be probed
  pub noted_reach : {at : Parts H L T C} (trail : List Attempt) → Reaches servers linked at
      → Reaches servers linked (with_noted trail at)
  noted_reach {at} trail reach =
      record {
        health = reach.health;
        links = reach.links;
        probers = length-noted trail at.backend.probers ∙ reach.probers;
      }
