-- What calls of clients leave of the parts that all share.
use Rattle.std.proofs.Common.{ℕ, List, refl, sym, subst, ◌∙◌}
use Rattle.tko_reply.specs.declared.parts.Parts.{Parts}
use Rattle.tko_session.specs.Clients.{IsClient, life}
use Rattle.tko_client.specs.declared.client.EventClient.{EventClient}
use Rattle.tko_client.specs.Answerings.{IsAnsweringReady}
use Rattle.tko_client.specs.Clients.{IsReadyAfter, IsReadyOver, client_of}
use Rattle.tko_client.specs.Steps.{HasStayed}

module _ {H T C : Type 0} {servers : H → ℕ} where
  -- nothing was done
  pub no_change : {parts : Parts H (List ℕ) T C} → HasStayed servers parts parts
  no_change = record { config = refl; health = refl; links = refl }

  pub stayed_on : {one two three : Parts H (List ℕ) T C} → HasStayed servers one two
      → HasStayed servers two three → HasStayed servers one three
  stayed_on first second = record {
    config = second.config ∙ first.config;
    health = second.health ∙ first.health;
    links = second.links ∙ first.links;
  }

  -- other clients made calls
  pub over_stays : {it : EventClient} {old new : Parts H (List ℕ) T C}
      → HasStayed servers old new → IsReadyOver old.config it → IsReadyOver new.config it
  over_stays {it} stays ready = record {
    answering = subst (λ c. IsAnsweringReady c it.answering) (sym stays.config) ready.answering;
    stands = ready.stands;
    reading = ready.reading;
  }

  pub ready_stays : {it : EventClient} {came went : List ℕ} {old new : Parts H (List ℕ) T C}
      → HasStayed servers old new → IsReadyAfter old.config came went it
      → IsReadyAfter new.config came went it
  ready_stays {it} {came} {went} stays ready = record {
    over = over_stays stays ready.over;
    done = ready.done;
    is = subst (λ c. IsClient c (life came went ready.done) (client_of it)) (sym stays.config)
        ready.is;
  }
