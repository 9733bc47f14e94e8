-- What is answered to a request for the page for people, for the metrics or for the health.
use Rattle.std.specs.Prelude.{◌≡◌, ℕ, Bool, false, true, List, [], ◌++◌, map, string_bytes}
use Rattle.http.specs.declared.request.Request.{Request}
use Rattle.http.specs.Request.{head_of}
use Rattle.http_server.specs.declared.response.Response.{Response}
use Rattle.http_server.specs.Exchange.{Call}
use Rattle.http_server.specs.Response.{fields_of}
use Rattle.http_uri.specs.Uri.{uri_path, uri_query}
use Rattle.tko_metrics.specs.declared.build.Build.{Build}
use Rattle.tko_metrics.specs.declared.health.HealthReport.{HealthReport}
use Rattle.tko_metrics.specs.declared.health.ShownPool.{ShownPool}
use Rattle.tko_metrics.specs.Health.{IsHealth}
use Rattle.tko_metrics.specs.Meters.{meter_parts}
use Rattle.tko_metrics.specs.Pages.{IsPage}
use Rattle.tko_metrics.specs.Statuses.{IsStatusOf}
use Rattle.tko_scrapes.specs.declared.answer.Answer.{Answer}
use Rattle.tko_scrapes.specs.declared.answer.Answer.TheVariants.{Status, Page, Health}
use Rattle.tko_scrapes.specs.declared.pages.Pages.{Pages}
use Rattle.tko_scrapes.specs.Answers.{answer_to, fields_for, has_body, health_status, is_refreshed, may_have}
use Rattle.tko_status.specs.declared.page.StatusPage.{StatusPage}
use Rattle.tko_status.specs.declared.past.PastReading.{PastReading}
use Rattle.tko_status.specs.Pages.{status_page_text}

-- what is shown: servers of these addresses as so many workers count them, and the pools over them,
-- in a process of this build that runs for so long, at this moment, with what was counted in the
-- last minute
pub record Scraped : Type 0 where
  pub addresses : List (List ℕ)
  pub workers : ℕ
  pub build : Build
  pub pools : List ShownPool
  pub past : List PastReading
  pub uptime : ℕ
  pub moment : ℕ

abbrev pub served : Pages → Scraped
served pages = record {
  addresses = map string_bytes pages.addresses.now;
  workers = meter_parts pages.meter.now;
  build = pages.process.now.build;
  pools = pages.pools.now;
  past = pages.past.now;
  uptime = pages.uptime;
  moment = pages.moment;
}

-- the page for people shows a status of the workers, and all else as it is
pub record ShowsScraped (it : Scraped) (is_refreshed : Bool) (page : StatusPage) : Type 0 where
  pub is_status : IsStatusOf it.addresses it.workers page.status
  pub build : page.build ≡ it.build
  pub pools : page.pools.now ≡ it.pools
  pub past : page.past.now ≡ it.past
  pub uptime : page.uptime ≡ it.uptime
  pub moment : page.moment ≡ it.moment
  pub refreshed : page.is_refreshed ≡ is_refreshed

-- the text is that of such a page
pub record IsStatusPage (it : Scraped) (is_refreshed : Bool) (text : List ℕ) : Type 0 where
  pub page : StatusPage
  pub shows : ShowsScraped it is_refreshed page
  pub is : text ≡ status_page_text page

-- the page for people was put behind what the body had
pub record HasStatus (it : Scraped) (is_refreshed : Bool) (before after : List ℕ) : Type 0 where
  pub page : List ℕ
  pub is_page : IsStatusPage it is_refreshed page
  pub body : after ≡ before ++ page

-- a page of these addresses, of this build and of some workers was put behind what the body had
pub record HasPage (addresses : List (List ℕ)) (run : Build) (before after : List ℕ) : Type 0
  where
    pub page : List ℕ
    pub workers : ℕ
    pub is_page : IsPage addresses run workers page
    pub body : after ≡ before ++ page

-- the response has the status of this health of these pools, and its text was put behind what the
-- body had
pub record HasHealth (addresses : List (List ℕ)) (pools : List ShownPool) (before : List ℕ)
    (response : Response) : Type 0
  where
    pub report : HealthReport
    pub is_health : IsHealth addresses pools report
    pub status : response.status ≡ health_status report.is_healthy
    pub body : response.body.items ≡ before ++ report.text.items

-- the response is this answer; nothing but a page and the health has a body
pub record IsPageAnswer (answer : Answer) (response : Response) : Type 0 where
  pub status : may_have answer response.status ≡ true
  pub fields : fields_of response ≡ fields_for answer
  pub body : has_body answer ≡ false → response.body.items ≡ []

-- the answer to the method and the path of a request
abbrev pub page_answer : Request (List ℕ) → Answer
page_answer request = answer_to (head_of request).method (uri_path (head_of request).uri)

-- the response is the answer to the request
abbrev pub AnswersScrape : Request (List ℕ) → Response → Type 0
AnswersScrape request response = IsPageAnswer (page_answer request) response

-- the same of a request and its response
abbrev pub IsScrapeAnswered : Call → Type 0
IsScrapeAnswered call = AnswersScrape call.0 call.1

-- whether the page for people that is asked for is refreshed
abbrev pub wants_refresh : Request (List ℕ) → Bool
wants_refresh request = is_refreshed (uri_query (head_of request).uri)

-- the response is the answer to the request, and each page and the health show what is served
pub record ShowsPage (it : Scraped) (request : Request (List ℕ)) (response : Response) : Type 0
  where
    pub answer : AnswersScrape request response
    pub status : page_answer request ≡ Status
        → HasStatus it (wants_refresh request) [] response.body.items
    pub page : page_answer request ≡ Page → HasPage it.addresses it.build [] response.body.items
    pub health : page_answer request ≡ Health → HasHealth it.addresses it.pools [] response
