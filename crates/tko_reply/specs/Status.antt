-- The status text: what a look-up of each server found.
use Rattle.std.specs.Prelude.{◌≡◌, ℕ, ◌+◌, List, [], ◌∷◌, ◌++◌, codes, map, flat_map}
use Rattle.tko_model.specs.declared.look.Look.{Look}
use Rattle.tko_model.specs.declared.look.Look.TheVariants as look
use Rattle.tko_model.specs.declared.mark.Mark.{Mark}
use Rattle.tko_model.specs.declared.mark.Mark.TheVariants as mark
use Rattle.tko_model.specs.Records.{HealthItem, Gains}
use Rattle.tko_model.specs.Texts.{mark_text}
use Rattle.tko_health.specs.Health.{look_item}

-- the address of a server, and what its look-up found
pub record LookedServer : Type 0 where
  pub address : List ℕ
  pub found : Look

-- the mark of a server, as a look-up found it
abbrev pub mark_of : Look → Mark
mark_of (look.Up count clear) = mark.Up count
mark_of (look.Marked found) = found

-- `STAT <address> <mark>` CR LF
abbrev pub mark_line : List ℕ → Mark → List ℕ
mark_line address found =
    codes "STAT " ++ address ++ codes " " ++ mark_text found ++ codes "\r\n"

abbrev pub status_line : LookedServer → List ℕ
status_line server = mark_line server.address (mark_of server.found)

abbrev pub addresses_in : List LookedServer → List (List ℕ)
addresses_in servers = map (λ server. server.address) servers

-- the look-ups of servers, which are numbered from this number on
abbrev pub looks_from : ℕ → List LookedServer → List HealthItem
looks_from number [] = []
looks_from number (server ∷ servers) =
    look_item number server.found ∷ looks_from (number + 1) servers

-- each server was looked up once, in number order, and the text has the line of each and `END`
pub record IsStatusText (addresses : List (List ℕ)) (text : List ℕ) (looks : List HealthItem)
    : Type 0 where
  pub servers : List LookedServer
  pub all : addresses_in servers ≡ addresses
  pub are : looks ≡ looks_from 0 servers
  pub lines : text ≡ flat_map status_line servers ++ codes "END\r\n"

-- such look-ups led to this health, and gave the text beside it
pub record IsStatus {H : Type 0} (steps : H → HealthItem → H → Type 0)
    (addresses : List (List ℕ)) (old : H) (to : H × List ℕ) : Type 0 where
  pub looks : List HealthItem
  pub is : IsStatusText addresses to.1 looks
  pub gains : Gains steps old looks to.0

-- such a text was put at the end of a buffer: health and the buffer before and after
pub record IsStatusAfter {H : Type 0} (steps : H → HealthItem → H → Type 0)
    (addresses : List (List ℕ)) (old new : H × List ℕ) : Type 0 where
  pub text : List ℕ
  pub status : IsStatus steps addresses old.0 (new.0, text)
  pub appended : new.1 ≡ old.1 ++ text
