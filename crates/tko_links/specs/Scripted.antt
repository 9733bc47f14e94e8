-- Links that play a list of scripts: what each script gives to a request, and what a send changes.
use Rattle.std.specs.Prelude.{◌≡◌, ℕ, ◌+◌, List, [], ◌∷◌, ◌++◌, codes, drop, flat_map, length, slice_get, slice_index, slice_set, Option, Some, None, Result, Ok, Err}
use Rattle.std.specs.Fmt.{decimal}
use Rattle.tko_text.specs.declared.request.Request.{Request}
use Rattle.tko_text.specs.declared.request.Request.TheVariants as request
use Rattle.tko_text.specs.declared.response.fault.ReadFault.{ReadFault}
use Rattle.tko_text.specs.declared.response.fault.ReadFault.TheVariants as fault
use Rattle.tko_text.specs.declared.response.Response.{Response}
use Rattle.tko_text.specs.Requests.{request_text}
use Rattle.tko_text.specs.ResponseReads.{ReadsResponse}
use Rattle.tko_links.specs.declared.links.Outcome.{Outcome}
use Rattle.tko_links.specs.declared.links.Outcome.TheVariants as outcome
use Rattle.tko_links.specs.declared.scripted.Script.{Script}
use Rattle.tko_links.specs.declared.scripted.Script.TheVariants as script
use Rattle.tko_links.specs.Links.{LinksItem, Sent, Probed}

-- the scripts that are left, how often each server was sent to and probed, and the bytes of each
-- request sent
pub record ScriptedState : Type 0 where
  pub scripts : List Script
  pub sends : List ℕ
  pub probes : List ℕ
  pub requests : List (List ℕ)

-- what comes of an answer's bytes, by what a reading of them gives; nothing where memory ran out
abbrev pub came_of_bytes : Result (Response × ℕ) ReadFault → Option Outcome
came_of_bytes (Ok found) = Some (outcome.Reply found.0)
came_of_bytes (Err fault.Short) = Some outcome.Broken
came_of_bytes (Err fault.Unreadable) = Some outcome.Broken
came_of_bytes (Err fault.Memory) = None

-- `came` is what comes of a request that these bytes answer
abbrev pub ComesOfBytes : List ℕ → Request → Option Outcome → Type 0
ComesOfBytes bytes request came =
    (read : Result (Response × ℕ) ReadFault)
    × ReadsResponse request bytes read × (came_of_bytes read ≡ came)

-- a value of this key with flags 0 and this text of a cas number, and the line `END`
abbrev pub hit_text : List ℕ → List ℕ → List ℕ → List ℕ
hit_text key cas text =
    codes "VALUE " ++ key ++ codes " 0 " ++ decimal (length text) ++ cas ++ codes "\r\n" ++ text
    ++ codes "\r\nEND\r\n"

-- `came` is what comes of a retrieval of these keys where such a value of the one key answers it
abbrev pub HitsKeys : List (List ℕ) → List ℕ → List ℕ → Request → Option Outcome → Type 0
HitsKeys (key ∷ []) cas text request came = ComesOfBytes (hit_text key cas text) request came
HitsKeys _ cas text request came = came ≡ Some outcome.Broken

-- `came` is what comes of a request that a value of its key answers; only `gets` gets a cas number,
-- and a request that is no retrieval cannot read a value
abbrev pub Hits : List ℕ → Request → Option Outcome → Type 0
Hits text (request.Get keys) came = HitsKeys keys [] text (request.Get keys) came
Hits text (request.Gets keys) came = HitsKeys keys (codes " 1") text (request.Gets keys) came
Hits text _ came = came ≡ Some outcome.Broken

-- `came` is what this script makes come of a request
abbrev pub ScriptGives : Script → Request → Option Outcome → Type 0
ScriptGives script.Refused request came = came ≡ Some outcome.Refused
ScriptGives script.Timeout request came = came ≡ Some outcome.Timeout
ScriptGives script.Broken request came = came ≡ Some outcome.Broken
ScriptGives (script.Bytes bytes) request came = ComesOfBytes bytes.items request came
ScriptGives (script.Hit text) request came = Hits text.items request came

-- `came` is what the next script makes come of a request; a used-up list refuses
abbrev pub NextGives : Option Script → Request → Option Outcome → Type 0
NextGives None request came = came ≡ Some outcome.Refused
NextGives (Some next) request came = ScriptGives next request came

-- one more at this server
abbrev pub raised_at : List ℕ → ℕ → List ℕ
raised_at counts server = slice_set counts server (slice_index counts server + 1)

-- a request was counted at its server, and its bytes are kept
abbrev pub counted_send : ScriptedState → ℕ → Request → ScriptedState
counted_send old server request =
    record old {
      sends = raised_at old.sends server;
      requests = old.requests ++ request_text request ∷ [];
    }

-- what came of an item is what the next script gives; a probe asks for the version
abbrev pub IsNextGiven : Option Script → LinksItem → Type 0
IsNextGiven next (Sent server request came) = NextGives next request came
IsNextGiven next (Probed server came) = NextGives next request.Version came

-- the bytes of the request that was sent in an item; those of a probe are not kept
abbrev pub request_texts_in : LinksItem → List (List ℕ)
request_texts_in (Sent server request came) = request_text request ∷ []
request_texts_in (Probed server came) = []

-- how often each server was sent to after an item
abbrev pub sends_after : List ℕ → LinksItem → List ℕ
sends_after sends (Sent server request came) = raised_at sends server
sends_after sends (Probed server came) = sends

-- how often each server was probed after an item
abbrev pub probes_after : List ℕ → LinksItem → List ℕ
probes_after probes (Sent server request came) = probes
probes_after probes (Probed server came) = raised_at probes server

-- one item: it uses the next script, which gives what came, it is counted, and the bytes of a
-- request are kept
pub record IsPlayed (old : ScriptedState) (it : LinksItem) (new : ScriptedState) : Type 0 where
  pub outcome : IsNextGiven (slice_get old.scripts 0) it
  pub state : new ≡ record {
    scripts = drop 1 old.scripts;
    sends = sends_after old.sends it;
    probes = probes_after old.probes it;
    requests = old.requests ++ request_texts_in it;
  }

-- these scripts, one after another, give what came of these items
abbrev pub GiveInOrder : List Script → List LinksItem → Type 0
GiveInOrder scripts [] = Unit {0}
GiveInOrder scripts (it ∷ items) =
    IsNextGiven (slice_get scripts 0) it × GiveInOrder (drop 1 scripts) items

-- how often each server was sent to after these items
abbrev pub sends_after_all : List ℕ → List LinksItem → List ℕ
sends_after_all sends [] = sends
sends_after_all sends (it ∷ items) = sends_after_all (sends_after sends it) items

-- how often each server was probed after these items
abbrev pub probes_after_all : List ℕ → List LinksItem → List ℕ
probes_after_all probes [] = probes
probes_after_all probes (it ∷ items) = probes_after_all (probes_after probes it) items

-- over these items the scripts are used in order, each send and each probe is counted, and the
-- bytes of each request are kept in order
pub record IsScriptReplay (old : ScriptedState) (items : List LinksItem) (new : ScriptedState)
    : Type 0 where
  pub outcomes : GiveInOrder old.scripts items
  pub scripts : new.scripts ≡ drop (length items) old.scripts
  pub sends : new.sends ≡ sends_after_all old.sends items
  pub probes : new.probes ≡ probes_after_all old.probes items
  pub requests : new.requests ≡ old.requests ++ flat_map request_texts_in items
