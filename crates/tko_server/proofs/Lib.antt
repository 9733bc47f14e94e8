mod EndingLemmas
mod EventMemberLemmas
mod MemberLemmas
mod RoutePoolLemmas
mod RunLemmas
