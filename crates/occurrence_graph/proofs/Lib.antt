mod CancelLaws
