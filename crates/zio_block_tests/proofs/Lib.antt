pub mod MirrorBlocks
