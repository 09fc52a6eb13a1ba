mod DoorLemmas
mod HavingLemmas
mod SiteLemmas
