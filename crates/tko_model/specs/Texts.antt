-- The words of operations, marks and replies.
use Rattle.std.specs.Prelude.{ℕ, List, ◌++◌, codes, decimal}
use Rattle.tko_model.specs.declared.mark.Mark.{Mark}
use Rattle.tko_model.specs.declared.mark.Mark.TheVariants.{Up, Soft, Hard}
use Rattle.tko_model.specs.declared.mark.Op.{Op}
use Rattle.tko_model.specs.declared.mark.Op.TheVariants.{LookUp, SoftFailure, HardFailure, Success, Release}
use Rattle.tko_model.specs.declared.mark.Reply.{Reply}
use Rattle.tko_model.specs.declared.mark.Reply.TheVariants as reply

abbrev pub op_text : Op → List ℕ
op_text LookUp = codes "look"
op_text SoftFailure = codes "soft"
op_text HardFailure = codes "hard"
op_text Success = codes "success"
op_text Release = codes "release"

abbrev pub mark_text : Mark → List ℕ
mark_text (Up count) = codes "up:" ++ decimal count
mark_text (Soft thread) = codes "soft:" ++ decimal thread
mark_text (Hard thread) = codes "hard:" ++ decimal thread

abbrev pub reply_text : Reply → List ℕ
reply_text (reply.Up count) = codes "found:" ++ mark_text (Up count)
reply_text (reply.Marked mark) = codes "found:" ++ mark_text mark
reply_text (reply.Counted count) = codes "counted:" ++ decimal count
reply_text reply.TookSoft = codes "took-soft"
reply_text reply.Full = codes "full"
reply_text (reply.Already mark) = codes "already:" ++ mark_text mark
reply_text reply.Worn = codes "worn"
reply_text reply.Contended = codes "contended"
reply_text reply.TookHard = codes "took-hard"
reply_text reply.Hardened = codes "hardened"
reply_text reply.Clean = codes "clean"
reply_text (reply.Reset count) = codes "reset:" ++ decimal count
reply_text (reply.Unmarked mark) = codes "unmarked:" ++ mark_text mark
reply_text (reply.Released mark) = codes "released:" ++ mark_text mark
reply_text (reply.NotMine mark) = codes "not-mine:" ++ mark_text mark
