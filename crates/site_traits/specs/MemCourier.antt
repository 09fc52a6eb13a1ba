-- A courier in memory.
use Rattle.std.specs.Prelude.{◌≡◌, ◌↔◌, ℕ, ◌+◌, List, length, unwrap_or, slice_get}
use Rattle.site_traits.specs.Counts.{CallCounts, one_more}
use Rattle.site_traits.specs.Log.{HasRoom, SameRoom, empty}
use Rattle.site_traits.specs.declared.courier.PostAnswer.{PostAnswer}
use Rattle.site_traits.specs.declared.courier.PostAnswer.TheVariants as post
use Rattle.site_traits.specs.declared.mem_courier.MemCourier.{MemCourier}
use Rattle.site_traits.specs.declared.mem_courier.PostPlan.{PostPlan}
use Rattle.site_traits.specs.declared.mem_courier.PostPlan.TheVariants as planned

-- a courier with this plan, which carried nothing, with room for 1,048,576 posts and 64 MiB (own rule)
pub record IsNewCourier (plans : List PostPlan) (c : MemCourier) : Type 0 where
  pub plans_are : c.plans.items ≡ plans
  pub next : c.next ≡ 0
  pub posts : c.posts ≡ empty 1048576 67108864
  pub calls : c.calls ≡ 0
  pub faults : c.faults ≡ 0

-- how often it was asked to post, and how often that failed
abbrev pub counts_of : MemCourier → CallCounts
counts_of c = record { calls = c.calls; faults = c.faults }

-- what the plan has for the next post: behind the plan 204 (own rule)
abbrev pub next_post : MemCourier → PostPlan
next_post c = unwrap_or (slice_get c.plans.items c.next) (planned.Status 204)

-- the place in the plan after a post: one plan more is used, unless it has a status and the post failed, since its
-- record has no room
abbrev pub post_place_after : PostAnswer → PostPlan → ℕ → ℕ
post_place_after post.Failed (planned.Status status) place = place
post_place_after answer plan place = one_more place

-- the count of faults after a post
abbrev pub post_faults_after : PostAnswer → ℕ → ℕ
post_faults_after post.Failed faults = one_more faults
post_faults_after (post.Status status) faults = faults

-- A post gets a status exactly where the plan has it and its record has room for the callback and the body; its plan is
-- used, and its fault is counted (own rule).
pub record RunsPost (uri body : List ℕ) (result : PostAnswer) (old new : MemCourier) : Type 0 where
  pub served : (status : ℕ) → (result ≡ post.Status status)
      ↔ ((next_post old ≡ planned.Status status) × HasRoom (length uri + length body) old.posts)
  pub plans : new.plans.items ≡ old.plans.items
  pub place : new.next ≡ post_place_after result (next_post old) old.next
  pub room : SameRoom old.posts new.posts
  pub faults : new.faults ≡ post_faults_after result old.faults
