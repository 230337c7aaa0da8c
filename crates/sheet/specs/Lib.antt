-- What `src/` promises beyond what `lines` does: what a write that fails leaves. Assumes nothing.
pub mod Failed
