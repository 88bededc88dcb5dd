-- What the views of trees answer.
pub use Rattle.campl_tree.proofs.Views.{seq_views, chan_views, views}
