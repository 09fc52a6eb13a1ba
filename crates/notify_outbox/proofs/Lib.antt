mod DeliverLemmas
mod NoticeLemmas
mod OrderLemmas
mod ReadLemmas
mod RoomLemmas
mod RoundLemmas
