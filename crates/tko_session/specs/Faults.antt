-- What it means for a session that its reader takes no piece.
use Rattle.tko_text.specs.declared.reader.FeedFault.{FeedFault}
use Rattle.tko_text.specs.declared.reader.FeedFault.TheVariants as feed
use Rattle.tko_session.specs.declared.fault.SessionFault.{SessionFault}
use Rattle.tko_session.specs.declared.fault.SessionFault.TheVariants as session

abbrev pub session_fault_of : FeedFault → SessionFault
session_fault_of feed.Failed = session.LineTooLong
session_fault_of feed.Memory = session.Memory
