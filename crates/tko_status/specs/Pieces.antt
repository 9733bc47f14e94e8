-- The parts of the page that are always the same.
use Rattle.std.specs.Prelude.{ℕ, List}
use Rattle.tko_status.specs.declared.pieces.Piece.{Piece}
use Rattle.tko_status.specs.declared.pieces.Piece.TheVariants as piece
use Rattle.tko_status.specs.declared.pieces.TheConstants as text
use Rattle.tko_status.specs.declared.style.TheConstants.{STYLE}

-- the words of a part; what the style says is not spelled out here
unfoldable pub piece_text : Piece → List ℕ
piece_text piece.HeadFront = text.HEAD_FRONT.now
piece_text piece.Refresh = text.REFRESH.now
piece_text piece.Style = STYLE.now
piece_text piece.HeadEnd = text.HEAD_END.now
piece_text piece.Running = text.RUNNING.now
piece_text piece.RefreshOn = text.REFRESH_ON.now
piece_text piece.RefreshOff = text.REFRESH_OFF.now
piece_text piece.RateFront = text.RATE_FRONT.now
piece_text piece.ItemEnd = text.ITEM_END.now
piece_text piece.ItemsEnd = text.ITEMS_END.now
piece_text piece.PoolFront = text.POOL_FRONT.now
piece_text piece.CaptionEnd = text.CAPTION_END.now
piece_text piece.UpRow = text.UP_ROW.now
piece_text piece.SoftRow = text.SOFT_ROW.now
piece_text piece.HardRow = text.HARD_ROW.now
piece_text piece.Up = text.UP.now
piece_text piece.Soft = text.SOFT.now
piece_text piece.Hard = text.HARD.now
piece_text piece.ProbedBy = text.PROBED_BY.now
piece_text piece.WorkersFront = text.WORKERS_FRONT.now
piece_text piece.WorkerRow = text.WORKER_ROW.now
piece_text piece.TableEnd = text.TABLE_END.now
piece_text piece.PageEnd = text.PAGE_END.now
