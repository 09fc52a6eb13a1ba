-- The lists that have values, one after another.
use Rattle.json_views.proofs.SubscriptionLemmas.{about_all}
use Rattle.json_views.proofs.subscription.about_members.Goals as goal

pub returns : goal.returns
returns c =
    rw (
      c.in_ok-put_texts-3.ensures,
      c.in_ok-put_texts-2.ensures,
      c.in_ok-put_texts.ensures,
      c.new-members.ensures.empty,
      c.as_slice-3.ensures,
      c.as_slice-2.ensures,
      c.as_slice.ensures,
    )
    (about_all c.args.filter.now)
