-- What the client asks, what it must get, and how both are printed.
use Rattle.std.specs.Prelude.{ℕ, List, ◌++◌, codes, flat_map}
use Rattle.tko_bytes.specs.Lines.{lines_of}
use Rattle.tko_demo.specs.declared.exchange.Exchange.{Exchange}
use Rattle.tko_demo.specs.declared.exchange.Exchange.TheVariants.{Stored, Found, Missed, Marked, Unmarked}

-- a request, to its last CR LF
abbrev pub asked_text : Exchange → List ℕ
asked_text Stored = codes "set greeting 0 0 5\r\nhello\r\n"
asked_text Found = codes "get greeting\r\n"
asked_text Missed = codes "get greeting\r\n"
asked_text Marked = codes "stats tko\r\n"
asked_text Unmarked = codes "stats tko\r\n"

-- the reply that it must get, where the servers are named so
abbrev pub due_text : List ℕ → List ℕ → Exchange → List ℕ
due_text near far Stored = codes "STORED\r\n"
due_text near far Found = codes "VALUE greeting 0 5\r\nhello\r\nEND\r\n"
due_text near far Missed = codes "END\r\n"
due_text near far Marked =
    codes "STAT " ++ near ++ codes " hard:0\r\nSTAT " ++ far ++ codes " up:0\r\nEND\r\n"
due_text near far Unmarked =
    codes "STAT " ++ near ++ codes " up:0\r\nSTAT " ++ far ++ codes " up:0\r\nEND\r\n"

-- the lines of a text, each after this sign
abbrev pub signed_lines : List ℕ → List ℕ → List ℕ
signed_lines sign text = flat_map (λ line. sign ++ line ++ codes "\n") (lines_of text)

-- an exchange as it is printed, with the servers named by their pools
unfoldable pub shown_text : Exchange → List ℕ
shown_text exchange =
    signed_lines (codes "> ") (asked_text exchange)
    ++ signed_lines (codes "< ") (due_text (codes "near") (codes "far") exchange)
