pub use Rattle.cluster_core.proofs.Begun
mod ClientsCross
mod RunsCross
mod TreesCross
