mod TallyLaws
mod SeenLaws
mod GrantLemmas
mod PlacingLaws
mod RequestLaws
mod GrantAllLaws
mod ReadLaws
