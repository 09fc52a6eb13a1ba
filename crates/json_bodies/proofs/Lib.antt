pub mod ByteLemmas
mod DocumentLemmas
mod ListLemmas
mod MachineLemmas
mod SubscriptionLemmas
mod TableLemmas
mod TextLemmas
