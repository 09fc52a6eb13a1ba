-- The lists that have values, one after another.
use Rattle.std.proofs.Common.{◌∙◌, ap}
use Rattle.json_views.specs.Subscription.{object_where}
use Rattle.json_views.proofs.SubscriptionLemmas.{filter_all}
use Rattle.json_views.proofs.subscription.filter_members.Goals as goal

pub returns : goal.returns
returns c =
    rw (
      c.in_ok-put_where.ensures,
      c.in_ok-put_texts-3.ensures,
      c.in_ok-put_texts-2.ensures,
      c.in_ok-put_texts.ensures,
      c.new-members.ensures.empty,
      c.as_slice-3.ensures,
      c.as_slice-2.ensures,
      c.as_slice.ensures,
    )
    (filter_all c.args.filter.now _ (c.object_where-about.ensures ∙ ap object_where c.in_ok-about_members.ensures))
