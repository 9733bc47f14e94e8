-- Addresses that are valid, and whose host and port may not be the ones that were meant: those of
-- servers, and those that options give.
use Rattle.std.specs.Prelude.{◌≡◌, ◌+◌, ℕ, Bool, ◌==◌, List, [], ◌∷◌, ◌++◌, Option, Some, None, codes, drop, if◌then◌else◌, is_some, option_map, take, unwrap_or}
use Rattle.std.specs.List.{position}
use Rattle.std.specs.Net.Grammar.{IsIpv6Text}
use Rattle.std.specs.declared.net.ipv6_addr.Ipv6Addr.{Ipv6Addr}
use Rattle.json.specs.Print.{quoted}
use Rattle.tko_pools.specs.Addresses.{last_colon}

-- the byte `%`
abbrev pub percent : ℕ
percent = 37

-- whether a host has a colon of its own
abbrev pub has_colon : List ℕ → Bool
has_colon host = is_some (last_colon host)

-- the text between the brackets of a host that has them
pub record IsBracketed (host inside : List ℕ) : Type 0 where
  pub is : host ≡ codes "[" ++ inside ++ codes "]"

-- where the zone of an address begins, if one is named
abbrev pub zone_place : List ℕ → Option ℕ
zone_place text = position (λ byte. byte == percent) text

-- what comes before the zone
abbrev pub before_zone : List ℕ → List ℕ
before_zone text = unwrap_or (option_map (λ place. take place text) (zone_place text)) text

-- a text writes an IPv6 address, whose zone may follow
abbrev pub WritesIpv6 : List ℕ → Type 0
WritesIpv6 text = (address : Ipv6Addr) × IsIpv6Text (before_zone text) address

-- how a line begins that warns of an address, after the word for what has it
abbrev pub warning_text : List ℕ → List ℕ → List ℕ
warning_text front address = codes "warning: " ++ front ++ codes " " ++ quoted address

-- what is said of an address with more than one colon and no brackets: which host and port it has
abbrev pub colons_line : List ℕ → List ℕ → List ℕ → List ℕ → List ℕ
colons_line front address host port =
    warning_text front address
    ++ codes " has more than one colon and no brackets: it is host " ++ host
    ++ codes ", port " ++ port ++ codes "\n"

-- what is said of an address with brackets round something else
abbrev pub brackets_line : List ℕ → List ℕ → List ℕ
brackets_line front address =
    warning_text front address ++ codes " has brackets, and no IPv6 address in them\n"

-- what is said of an address whose host has brackets round this text
pub data IsBracketNote (front address inside note : List ℕ) : Type 0 where
  Ipv6 : WritesIpv6 inside → note ≡ [] → IsBracketNote front address inside note
  Other : ¬ WritesIpv6 inside → note ≡ brackets_line front address
      → IsBracketNote front address inside note

-- what is said of an address whose host has none
abbrev pub plain_note : List ℕ → List ℕ → List ℕ → List ℕ → List ℕ
plain_note front address host port =
    if has_colon host then colons_line front address host port else []

-- what is said of an address of this host and port
pub data IsHostNote (front address host port note : List ℕ) : Type 0 where
  Plain : ((inside : List ℕ) → ¬ IsBracketed host inside)
      → note ≡ plain_note front address host port
      → IsHostNote front address host port note
  Bracketed : (inside : List ℕ) → IsBracketed host inside
      → IsBracketNote front address inside note
      → IsHostNote front address host port note

-- the same where this is its last colon; a text without one is no address
abbrev pub IsNoteAt : List ℕ → List ℕ → Option ℕ → List ℕ → Type 0
IsNoteAt front address (Some place) note =
    IsHostNote front address (take place address) (drop (place + 1) address) note
IsNoteAt front address None note = note ≡ []

-- what is said of an address, with this word for what has it: nothing, or one line
abbrev pub IsAddressNote : List ℕ → List ℕ → List ℕ → Type 0
IsAddressNote front address note = IsNoteAt front address (last_colon address) note

-- what is said of each address of a server, one after another
abbrev pub AreAddressNotes : List (List ℕ) → List ℕ → Type 0
AreAddressNotes [] text = text ≡ []
AreAddressNotes (address ∷ others) text =
    (note : List ℕ) × (rest : List ℕ) × IsAddressNote (codes "server") address note
    × AreAddressNotes others rest × (text ≡ note ++ rest)
