-- The row of a server.
use Rattle.std.specs.Prelude.{ℕ, ◌-◌, Bool, true, false, List, [], ◌++◌, Option, Some, None, codes, decimal}
use Rattle.tko_metrics.specs.declared.marking.Marking.{Marking}
use Rattle.tko_metrics.specs.declared.marking.Marking.TheVariants.{Up, Soft, Hard}
use Rattle.tko_metrics.specs.declared.reading.ServerReading.{ServerReading}
use Rattle.tko_metrics.specs.declared.reading.Shown.{Shown}
use Rattle.tko_status.specs.declared.pieces.Piece.{Piece}
use Rattle.tko_status.specs.declared.pieces.Piece.TheVariants as piece
use Rattle.tko_status.specs.declared.quantile.Share.TheVariants.{Half, NearlyAll}
use Rattle.tko_status.specs.Cells.{count_cells, in_flight_cell, outcome_cells, quantile_cell}
use Rattle.tko_status.specs.Durations.{duration_text, wait_text}
use Rattle.tko_status.specs.Escaping.{escaped}
use Rattle.tko_status.specs.Pieces.{piece_text}

-- the beginning of the row of a server with this mark
abbrev pub row_of_mark : Marking → Piece
row_of_mark Up = piece.UpRow
row_of_mark Soft = piece.SoftRow
row_of_mark Hard = piece.HardRow

-- the beginning of the row of a server, and its address
unfoldable pub row_front : Shown → List ℕ
row_front server = piece_text (row_of_mark server.reading.mark) ++ escaped server.address.now

-- when the next probe comes
unfoldable pub next_probe_text : ℕ → List ℕ
next_probe_text milliseconds = codes ", next probe " ++ wait_text milliseconds

-- the same, where none is due while one is out
abbrev pub due_probe_text : Option ℕ → List ℕ
due_probe_text (Some milliseconds) = next_probe_text milliseconds
due_probe_text None = codes ", probe under way"

-- the same where the workers are event-driven; others do not tell it
abbrev pub probe_text : Bool → Option ℕ → List ℕ
probe_text true next = due_probe_text next
probe_text false next = []

-- the worker that has the mark on a server, and when it probes the server next
unfoldable pub worker_cell : Bool → ServerReading → List ℕ
worker_cell is_event_driven reading =
    piece_text piece.ProbedBy ++ decimal reading.worker
    ++ probe_text is_event_driven reading.next_probe ++ codes "</td>"

-- a mark in these words, for how long a server has it, and the worker that has the mark
unfoldable pub mark_cells : Piece → Bool → ServerReading → ℕ → List ℕ
mark_cells words is_event_driven reading moment =
    piece_text words ++ duration_text (moment - reading.since)
    ++ worker_cell is_event_driven reading

abbrev pub cells_of_mark : Marking → Bool → ServerReading → ℕ → List ℕ
cells_of_mark Up is_event_driven reading moment = piece_text piece.Up
cells_of_mark Soft is_event_driven reading moment =
    mark_cells piece.Soft is_event_driven reading moment
cells_of_mark Hard is_event_driven reading moment =
    mark_cells piece.Hard is_event_driven reading moment

-- the state of a server, since when it is so, which worker probes it, and when
abbrev pub state_cells : Bool → ServerReading → ℕ → List ℕ
state_cells is_event_driven reading moment =
    cells_of_mark reading.mark is_event_driven reading moment

-- the numbers of a server, and how long its answers took, which are counted by bounds
unfoldable pub number_cells : ServerReading → List ℕ → List ℕ
number_cells reading up_to =
    count_cells reading ++ outcome_cells reading ++ quantile_cell Half up_to
    ++ quantile_cell NearlyAll up_to

-- the row of a server at a moment; whether the workers are event-driven, and so tell what they have
-- to do with it; and its answers, by the bounds that they took at most
unfoldable pub row_text : Shown → ℕ → Bool → List ℕ → List ℕ
row_text server moment is_event_driven up_to =
    row_front server ++ state_cells is_event_driven server.reading moment
    ++ in_flight_cell is_event_driven server.reading.in_flight
    ++ number_cells server.reading up_to ++ codes "</tr>\n"
