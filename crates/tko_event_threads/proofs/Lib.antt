mod AccountLemmas
mod SeatLemmas
mod TurnLemmas
