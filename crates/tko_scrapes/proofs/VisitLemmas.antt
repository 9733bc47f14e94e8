-- Each call of a client was answered.
use Rattle.std.proofs.Common.{List, ℕ, [], ◌∷◌, ◌++◌, All}
use Rattle.std.proofs.lemmas.List.Elements.{All-nil, All-cons, All-append, All-same}
use Rattle.http.specs.declared.request.Request.{Request}
use Rattle.http_server.specs.declared.response.Response.{Response}
use Rattle.http_server.specs.Exchange.{Call, Calls, Chain}
use Rattle.tko_scrapes.specs.Pages.{IsScrapeAnswered, Scraped, ShowsPage}

-- what a service answers that shows what is served in its state
abbrev answered : {S : Type 0} → (S → Scraped) → S → Request (List ℕ) → Response → S → Type 0
answered of old request response new = ShowsPage (of old) request response

-- each call of a chain was answered
chain_answered : {S : Type 0} (of : S → Scraped) (calls : List Call) (old new : S) → Chain (answered of) old calls new → All IsScrapeAnswered calls
chain_answered of [] old new same = All-nil IsScrapeAnswered
chain_answered of (call ∷ calls) old new chain =
    All-cons IsScrapeAnswered call calls chain.1.answer
    (chain_answered of calls chain.0 new chain.2)

-- and so is each call after these
pub calls_answered : {S : Type 0} (of : S → Scraped) (old new : S) (before after : List Call) → All IsScrapeAnswered before
    → Calls (answered of) old new before after → All IsScrapeAnswered after
calls_answered of old new before after had calls =
    All-same IsScrapeAnswered after (before ++ calls.0) calls.1
    (All-append IsScrapeAnswered before calls.0 had (chain_answered of calls.0 old new calls.2))
