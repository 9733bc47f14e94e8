pub mod ActLemmas
pub mod AnsweredLemmas
mod BegunLemmas
mod CallLemmas
pub mod ClientItemLemmas
pub mod ClientLemmas
mod DeliverLemmas
mod DeliveryEndLemmas
mod DrivenLemmas
mod DroppedLemmas
mod EarlierLemmas
pub mod EventLemmas
pub mod EventTurnsLemmas
mod FollowingLemmas
mod HandedLemmas
pub mod ItemAnsweredLemmas
pub mod ItemCutLemmas
pub mod ItemLemmas
pub mod ItemStateLemmas
pub mod KeyCutLemmas
pub mod LifeLemmas
pub mod ManyLemmas
pub mod OutgoingLemmas
pub mod PaidLemmas
mod PieceLemmas
mod ReadyLemmas
mod ReplyLemmas
mod ServedLemmas
mod SoFarLemmas
mod StoppedLemmas
mod TextFacts
pub mod TurnLemmas
pub mod TurnedLemmas
mod WroteLemmas
