-- The calls of a routed request, in order: on the health of the servers, and on the links to them.
use Rattle.std.specs.Prelude.{◌≡◌, ◌↔◌, ℕ, ◌+◌, Result, Ok}
use Rattle.tko_model.specs.declared.mark.Op.TheVariants.{LookUp}
use Rattle.tko_model.specs.declared.mark.Reply.{Reply}
use Rattle.tko_model.specs.Records.{HealthItem, Called}
use Rattle.tko_health.specs.declared.health.Health.{Ghosts as HealthGhosts}
use Rattle.tko_links.specs.declared.links.Links.{Ghosts as LinksGhosts}
use Rattle.tko_text.specs.declared.request.Request.{Request}
use Rattle.tko_links.specs.declared.links.ExchangeNoMemory.{ExchangeNoMemory}
use Rattle.tko_links.specs.declared.links.Outcome.{Outcome}
use Rattle.tko_links.specs.declared.links.Outcome.TheVariants as outcome
use Rattle.tko_links.specs.Links.{HasExchanged, LinksItem, is_counted, most_sends, part_of}

-- the servers as contracts see them: the record of their health, the record of the links to them,
-- and how often each was sent to
pub record Upstream (H L : Type 0) : Type 1 where
  pub steps : H → HealthItem → H → Type 0
  pub exchanges : L → LinksItem → L → Type 0
  pub sent : L → ℕ → ℕ

-- the servers as these health and links show them
abbrev pub upstream : {H L : Type 0} → HealthGhosts H → LinksGhosts L → Upstream H L
upstream health links =
    record { steps = health.steps; exchanges = links.exchanges; sent = links.sent }

-- health and links have as many servers as before
pub record HaveSameServers {H L : Type 0} (servers : H → ℕ) (linked : L → ℕ) (old new : H × L)
    : Type 0 where
  pub health_servers : servers new.0 ≡ servers old.0
  pub links_servers : linked new.1 ≡ linked old.1

-- the exchange of a request with a server, and what came of it
pub record Exchange : Type 0 where
  pub server : ℕ
  pub request : Request
  pub result : Result Outcome ExchangeNoMemory

-- a call of a routed request: health was told or asked something, or this came of an exchange
pub data RoutedCall : Type 0 where
  Told : (item : HealthItem) → RoutedCall
  Came : (exchange : Exchange) → RoutedCall

-- this came of the exchange of a request with a server
abbrev pub came : ℕ → Request → Result Outcome ExchangeNoMemory → RoutedCall
came server request result =
    Came (record { server = server; request = request; result = result })

-- a server was looked up, and found so
abbrev pub look_up : ℕ → Reply → RoutedCall
look_up server found = Told (Called LookUp server found)

-- what came of an exchange: one that counted a send is one item of the links' record, nothing is
-- sent exactly if the server's count of sends is used up, and the count rises by what was sent
pub record IsExchange {H L : Type 0} (upstream : Upstream H L) (old : L) (it : Exchange) (new : L)
    : Type 0 where
  pub item : HasExchanged upstream.exchanges old it.server it.request it.result new
  pub spent : (it.result ≡ Ok outcome.Spent) ↔ (upstream.sent old it.server ≡ most_sends)
  pub sends : (server : ℕ) → upstream.sent new server
      ≡ upstream.sent old server + part_of (is_counted it.result) it.server server

-- one call, as a step of health and links
abbrev pub DoesCall : {H L : Type 0} → Upstream H L → H × L → RoutedCall → H × L → Type 0
DoesCall upstream old (Told item) new = upstream.steps old.0 item new.0 × (new.1 ≡ old.1)
DoesCall upstream old (Came it) new = IsExchange upstream old.1 it new.1 × (new.0 ≡ old.0)

-- how often these calls sent to a server
abbrev pub sends_of : ℕ → RoutedCall → ℕ
sends_of server (Told item) = 0
sends_of server (Came it) = part_of (is_counted it.result) it.server server
