-- Which answer a request gets, and its status and its header fields.
use Rattle.std.specs.Prelude.{ℕ, Bool, true, false, not, List, [], ◌∷◌, ◌||◌, ◌==◌, if◌then◌else◌, Option, Some, None, codes}
use Rattle.std.specs.Str.{bytes_eq}
use Rattle.http1.specs.Fields.{Header}
use Rattle.tko_scrapes.specs.declared.answer.Answer.{Answer}
use Rattle.tko_scrapes.specs.declared.answer.Answer.TheVariants.{Status, Page, Health, NotAllowed, NotFound}

-- this answer, if the method may be asked for
abbrev pub if_allowed : List ℕ → Answer → Answer
if_allowed method answer =
    if bytes_eq method (codes "GET") || bytes_eq method (codes "HEAD") then answer else NotAllowed

-- what is answered to this method and this path
abbrev pub answer_to : List ℕ → List ℕ → Answer
answer_to method path =
    if bytes_eq path (codes "/") then if_allowed method Status
    else if bytes_eq path (codes "/metrics") then if_allowed method Page
    else if bytes_eq path (codes "/health") then if_allowed method Health
    else NotFound

-- the statuses of HTTP that answers have: done, a pool has no server in use, the method may not be
-- asked for, nothing is there
abbrev pub done_status : ℕ
done_status = 200

abbrev pub unavailable_status : ℕ
unavailable_status = 503

abbrev pub not_allowed_status : ℕ
not_allowed_status = 405

abbrev pub not_found_status : ℕ
not_found_status = 404

abbrev pub health_status : Bool → ℕ
health_status true = done_status
health_status false = unavailable_status

-- the status of an answer; that of the health depends on whether the pools are healthy
abbrev pub status_of : Answer → Bool → ℕ
status_of Status is_healthy = done_status
status_of Page is_healthy = done_status
status_of Health is_healthy = health_status is_healthy
status_of NotAllowed is_healthy = not_allowed_status
status_of NotFound is_healthy = not_found_status

abbrev pub close_field : Header
close_field = (codes "connection", codes "close")

abbrev pub type_field : Header
type_field = (codes "content-type", codes "text/plain; version=0.0.4; charset=utf-8")

abbrev pub text_field : Header
text_field = (codes "content-type", codes "text/plain; charset=utf-8")

abbrev pub html_field : Header
html_field = (codes "content-type", codes "text/html; charset=utf-8")

-- nobody is to keep the answer
abbrev pub no_store_field : Header
no_store_field = (codes "cache-control", codes "no-store")

abbrev pub allow_field : Header
allow_field = (codes "allow", codes "GET, HEAD")

-- the header fields of an answer
abbrev pub fields_for : Answer → List Header
fields_for Status = close_field ∷ html_field ∷ no_store_field ∷ []
fields_for Page = close_field ∷ type_field ∷ []
fields_for Health = close_field ∷ text_field ∷ []
fields_for NotAllowed = close_field ∷ allow_field ∷ []
fields_for NotFound = close_field ∷ []

-- whether an answer has a body
abbrev pub has_body : Answer → Bool
has_body Status = true
has_body Page = true
has_body Health = true
has_body NotAllowed = false
has_body NotFound = false

-- whether an answer may have this status, as the pools are healthy or not
abbrev pub may_have : Answer → ℕ → Bool
may_have answer status = status == status_of answer true || status == status_of answer false

-- whether the page for people is refreshed that is asked for with this query
abbrev pub is_refreshed : Option (List ℕ) → Bool
is_refreshed None = true
is_refreshed (Some query) = not (bytes_eq query (codes "refresh=0"))
